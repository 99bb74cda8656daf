use Rattle.std.proofs.Common.{◌+◌, ◌<◌, length, drop, get_or, refl, subst, sym}
use Rattle.type_phrases.proofs.PartsRead.{drop_item}
use Rattle.datatype_elab.proofs.Wanting.{in_at, below_at, index_is, marked_more}
use Rattle.datatype_elab.proofs.wants.mark_all.Goals as goal

pub bounds-marks-place : goal.bounds-marks-place
bounds-marks-place c =
    let places = c.args.places.now in
    let i = c.loop-place.place-index in
    subst (λ n. get_or places i 0 < n) (sym c.loop-place.invariant.counted)
    (below_at (length c.args.marks.now) places i (get_or places i 0) c.requires c.loop-place-test.true
    (index_is places i c.loop-place-test.true))

pub loop-place-preserved : goal.loop-place-preserved
loop-place-preserved c =
    let places = c.args.places.now in
    let i = c.loop-place.place-index in
    let e = index_is places i c.loop-place-test.true in
    marked_more c.args.marks.now c.loop-place.marks _ places (drop i places) (drop (i + 1) places) (get_or places i 0)
    c.loop-place.invariant (drop_item places i (get_or places i 0) c.loop-place-test.true e)
    (in_at places i (get_or places i 0) c.loop-place-test.true e)
    (below_at (length c.args.marks.now) places i (get_or places i 0) c.requires c.loop-place-test.true e) refl
