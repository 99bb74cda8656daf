use Rattle.std.proofs.Common.{◌≡◌, ◌∙◌, sym, ap, Some}
use Rattle.std.specs.Prelude.{slice_get}
use Rattle.infix_names.specs.Fixities.{Fixities, fixity_of}
use Rattle.infix_names.specs.FixityTables.{last_of, status_of}
use Rattle.infix_names.proofs.FixityTables.{looked_up, status_at}
use Rattle.infix_names.proofs.fixity.Fixities.find.Goals as goal

pub returns-in-Some : goal.returns-in-Some
returns-in-Some c =
    let fs = c.self.inside.entries.items in
    let found : last_of fs c.args.name.now ≡ Some c.in-Some.place =
    sym (c.self.invariant.placed c.args.name.now) ∙ sym c.place_of.ensures ∙ c.in-Some.is in
    c.status_at.ensures ∙ ap (λ (xs : Fixities). status_of (slice_get xs c.in-Some.place)) c.deref.ensures.value
    ∙ sym (looked_up fs c.args.name.now ∙ ap (status_at fs) found)
    ∙ ap (λ (xs : Fixities). fixity_of xs c.args.name.now) c.self.view_is
