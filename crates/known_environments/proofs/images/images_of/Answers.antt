use Rattle.std.proofs.Common.{◌+◌, get_or, drop, sym}
use Rattle.type_walks.proofs.Imaging.{picked_next, rest_at}
use Rattle.known_environments.proofs.images.images_of.Goals as goal

pub loop-place-preserved : goal.loop-place-preserved
loop-place-preserved c =
    let items = c.as_slice-place-items.result.now in
    let i = c.loop-place.place-index in
    picked_next c.args.images.now (drop i c.args.places.now) (drop (i + 1) c.args.places.now) (get_or items i 0)
    c.in-Some.image.now c.loop-place.picked c.add.new.self _
    (rest_at c.args.places.now items i 0 c.as_slice-place-items.ensures c.loop-place-test.true)
    (sym c.in-Some.ensures.item) c.in_ok-add-in-Some.ensures.ok c.loop-place.invariant
