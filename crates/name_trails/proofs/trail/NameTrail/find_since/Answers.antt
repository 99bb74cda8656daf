use Rattle.std.proofs.Common.{◌≡◌, ◌∙◌, sym, ap, Some, None, drop}
use Rattle.name_trails.specs.Trails.{last_entry}
use Rattle.name_trails.specs.Places.{last_place, entry_at}
use Rattle.name_trails.proofs.Placing.{looked_up, entry_there}
use Rattle.name_trails.proofs.trail.NameTrail.find_since.Goals as goal

pub returns-in-Some : goal.returns-in-Some
returns-in-Some g c =
    let rows = c.self.inside.rows.items in
    let found : last_place rows c.args.name.now ≡ Some c.in-Some.place =
    sym (c.self.invariant.placed c.args.name.now) ∙ sym c.place_of.ensures ∙ c.in-Some.is in
    c.entry_since.ensures ∙ ap (λ all. entry_at c.args.start all c.in-Some.place) c.deref.ensures.value
    ∙ sym (looked_up c.args.start rows c.args.name.now ∙ ap (entry_there c.args.start rows) found)
    ∙ ap (λ all. last_entry (drop c.args.start all) c.args.name.now) c.self.view_is

pub returns-in-None : goal.returns-in-None
returns-in-None g c =
    let rows = c.self.inside.rows.items in
    let found : last_place rows c.args.name.now ≡ None =
    sym (c.self.invariant.placed c.args.name.now) ∙ sym c.place_of.ensures ∙ c.in-None.is in
    sym (looked_up c.args.start rows c.args.name.now ∙ ap (entry_there c.args.start rows) found)
    ∙ ap (λ all. last_entry (drop c.args.start all) c.args.name.now) c.self.view_is
