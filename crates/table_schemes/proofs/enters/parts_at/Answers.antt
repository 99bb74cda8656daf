use Rattle.std.proofs.Common.{◌≡◌, ◌+◌, get_or, drop, slice_get, Some, sym, ap, ◌∙◌}
use Rattle.type_schemes.proofs.Items.{rest_at}
use Rattle.table_schemes.proofs.Entering.{parts_next}
use Rattle.table_schemes.proofs.enters.parts_at.Goals as goal

pub loop-place-preserved : goal.loop-place-preserved
loop-place-preserved c =
    let items = c.as_slice-place-items.result.now in
    let i = c.loop-place.place-index in
    let h = c.in-Some-Some in
    let g : slice_get c.args.parts.now (get_or items i 0) ≡ Some (Some h.part) = sym h.ensures.item ∙ ap Some h.field-0-is in
    parts_next c.args.parts.now (drop i c.args.places.now) (drop (i + 1) c.args.places.now) (get_or items i 0)
    c.loop-place.found c.add.new.self h.part _
    (rest_at c.args.places.now items i 0 c.as_slice-place-items.ensures c.loop-place-test.true)
    g c.in_ok-add-in-Some-Some.ensures.ok c.loop-place.invariant
