use Rattle.std.proofs.Common.{sym, ap, ◌∙◌, subst, cond, Some, nat_eq}
use Rattle.environment_walks.specs.Changing.{image_in}
use Rattle.canonical_types.specs.Variables.{AreTold}
use Rattle.canonical_types.proofs.Told.{told_more}
use Rattle.canonical_types.proofs.variables.Variables.note.Goals as goal

pub invariant_of-result-in-None : goal.invariant_of-result-in-None
invariant_of-result-in-None c = subst (AreTold c.set.new.self) (sym c.in_ok-add-in-None.ensures.ok)
    (told_more c.self.inside.places c.set.new.self c.self.inside.list c.args.variable c.self.invariant
    (sym c.of.ensures ∙ c.in-None.is)
    (λ p. c.in_ok-set-in-None.ensures p
    ∙ ap (λ n. cond (nat_eq c.args.variable p) (Some n) (image_in c.self.inside.places p)) c.len.ensures))
