use Rattle.std.proofs.Common.{subst, sym}
use Rattle.std.specs.Option.{option_map}
use Rattle.sml_modules.specs.Graphs.{Graph}
use Rattle.bare_phrases.specs.Phrases.{Rules}
use Rattle.type_phrases.specs.Inferred.{progress}
use Rattle.core_rules.specs.Rules.{IsRule}
use Rattle.core_rules.specs.Expressions.{match_on, sides_in}
use Rattle.core_rules.proofs.matching.match_type.Goals as goal

pub returns-in-None : goal.returns-in-None
returns-in-None c =
    subst (λ first. (g : Graph) → IsRule g c.args.t.now c.no_rules.new.t (λ sc. match_on sc
    (option_map (sides_in c.args.t.now) first) Rules.EndOfRules (progress c.args.t.now g)) c.no_rules.result)
    (sym c.in-None.is) c.no_rules.ensures
