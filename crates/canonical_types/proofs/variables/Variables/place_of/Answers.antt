use Rattle.std.proofs.Common.{sym, ap, ◌∙◌}
use Rattle.unification.specs.Closing.{place_of}
use Rattle.canonical_types.proofs.Told.{past_told}
use Rattle.canonical_types.proofs.variables.Variables.place_of.Goals as goal

pub returns-in-None : goal.returns-in-None
returns-in-None c = c.len.ensures
    ∙ past_told c.self.inside.places c.self.inside.list c.args.variable c.self.invariant (sym c.of.ensures ∙ c.in-None.is)
    ∙ ap (place_of c.args.variable) c.self.view_is
