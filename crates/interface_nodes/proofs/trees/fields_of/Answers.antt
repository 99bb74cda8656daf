use Rattle.std.proofs.Common.{◌+◌, ◌∷◌, length, drop, refl, sym, ap, ap₂, ◌∙◌}
use Rattle.std.proofs.lemmas.Option.{slice_get_read}
use Rattle.interface_nodes.specs.declared.fields.NamedPlace.{NamedPlace}
use Rattle.interface_nodes.proofs.Imaging.{fields_next, drop_get}
use Rattle.interface_nodes.proofs.trees.fields_of.Goals as goal

pub loop-at-preserved : goal.loop-at-preserved
loop-at-preserved c =
    let labels = c.args.labels.now in
    let items = c.as_slice-labels.result.now in
    let i = c.loop-at.at in
    let f : NamedPlace = record { name = c.in_ok-copy-in-Some.field-0; place = c.in-Some.place.now } in
    fields_next (drop i labels) (drop (i + 1) labels) (drop i c.args.places.now) (drop (i + 1) c.args.places.now)
    c.loop-at.fields c.add.new.self f _
    (ap (drop c.loop-at.at) (sym c.as_slice-labels.ensures)
    ∙ drop_get items i _ (slice_get_read items (length items) i _ refl c.loop-at-test.true c.index-labels-at.is)
    ∙ ap₂ (λ z zs. z ∷ zs) (sym c.in_ok-copy-in-Some.ensures) (ap (drop (c.loop-at.at + 1)) c.as_slice-labels.ensures))
    (drop_get c.args.places.now i c.in-Some.place.now (sym c.in-Some.ensures.item))
    c.in_ok-add-in-Some.ensures.ok c.loop-at.invariant
