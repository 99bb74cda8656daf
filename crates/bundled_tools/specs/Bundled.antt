-- What each of the three tools tells of itself.
use Rattle.std.specs.Prelude.{ℕ, List, codes}
use Rattle.bundled_tools.specs.Rules.{embed_rule, literate_rule, prelude_rule}
use Rattle.bundled_tools.specs.declared.bundled.BundledTool.{BundledTool}
use Rattle.bundled_tools.specs.declared.bundled.BundledTool.TheVariants as tool

abbrev pub class_of : BundledTool → List ℕ
class_of (tool.Embed one) = one.class
class_of (tool.Literate one) = one.class
class_of (tool.Prelude one) = one.class

abbrev pub rule_of : BundledTool → List ℕ
rule_of (tool.Embed one) = embed_rule one.value
rule_of (tool.Literate one) = literate_rule
rule_of (tool.Prelude one) = prelude_rule one.head

abbrev pub ran_of : BundledTool → ℕ
ran_of (tool.Embed one) = one.ran
ran_of (tool.Literate one) = one.ran
ran_of (tool.Prelude one) = one.ran
