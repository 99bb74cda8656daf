use Rattle.std.proofs.Common.{◌≡◌, sym, ap, ap₂, ◌∙◌}
use Rattle.std.proofs.lemmas.Option.{get_or_from_slice_get}
use Rattle.semantic_objects.specs.Symbols.{same_name}
use Rattle.type_walks.specs.Tables.{place_among}
use Rattle.imported_interfaces.specs.Known.{standing_by}
use Rattle.imported_interfaces.proofs.Keys.{none_is_new, at_place}
use Rattle.imported_interfaces.proofs.known.KnownNames.standing.Goals as goal

pub returns-in-None : goal.returns-in-None
returns-in-None c =
    let name = c.args.name.now in
    let names = c.args.self.now.names in
    sym (none_is_new name names
    (ap₂ place_among (sym c.in_ok-key.ensures) (sym c.requires.keys) ∙ sym c.in_ok-place_of.ensures ∙ c.in-None.is))

pub returns-in-Some-get : goal.returns-in-Some-get
returns-in-Some-get c =
    let name = c.args.name.now in
    let names = c.args.self.now.names in
    let known = c.in-Some-get.known.now in
    c.standing_by.ensures
    ∙ sym (at_place name known names c.in-Some.place
    (ap₂ place_among (sym c.in_ok-key.ensures) (sym c.requires.keys) ∙ sym c.in_ok-place_of.ensures ∙ c.in-Some.is)
    ∙ ap (λ m. standing_by (same_name m name))
    (get_or_from_slice_get names c.in-Some.place known known (sym c.in-Some-get.ensures.item)))
