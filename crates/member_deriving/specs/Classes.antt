-- Which tool a class of members has.
use Rattle.std.specs.Prelude.{ℕ, ◌≡◌, nat_eq, if◌then◌else◌, List, [], ◌∷◌, Option, None, Some}
use Rattle.std.specs.Cmp.Lexicographic.{pointwise}
use Rattle.cm_base.specs.Derived.{ToolRules}
use Rattle.tool_deriving.specs.Toolboxes.{rules_of, IsPlaceOf}

-- the rule of the tool of a class, among the classes and rules of a box; none where no tool has it
abbrev pub rule_named : ToolRules → List ℕ → Option (List ℕ)
rule_named [] class = None
rule_named (tool ∷ rules) class = if pointwise nat_eq tool.0 class then Some tool.1 else rule_named rules class

-- the place of the tool that members of a class use: the first one that has it, and its rule is that of the class
pub record IsToolOf {A : Type 0} (class_of rule_of : A → List ℕ) (class : List ℕ) (tools : List A) (at : ℕ) : Type 0 where
  pub place : IsPlaceOf class_of class tools at
  pub named : rule_named (rules_of class_of rule_of tools) class ≡ Some (rule_of place.tool)
