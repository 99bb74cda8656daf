use Rattle.std.proofs.Common.{drop, get_or, ◌+◌, sym}
use Rattle.function_forms.proofs.Places.{drop_at}
use Rattle.function_forms.proofs.Marking.{part_admits, goes_on, ends}
use Rattle.function_forms.specs.Admitting.{parts_admit}
use Rattle.function_forms.proofs.admitting.all_marked.Goals as goal

pub loop-place-preserved : goal.loop-place-preserved
loop-place-preserved c trees known q =
    let places = c.args.places.now in
    let i = c.loop-place.place-index in
    goes_on c.in-Some.mark.now (parts_admit q trees (drop (i + 1) places)) (parts_admit q trees places)
    c.if-not-mark.false (part_admits trees c.args.marked.now places (drop i places) (drop (i + 1) places)
    (get_or places i 0) c.in-Some.mark.now known (drop_at places i 0 c.loop-place-test.true)
    (sym c.in-Some.ensures.item) q (c.loop-place.invariant trees known q))

pub returns-then-not-mark : goal.returns-then-not-mark
returns-then-not-mark c trees known q =
    let places = c.args.places.now in
    let i = c.loop-place.place-index in
    ends c.in-Some.mark.now (parts_admit q trees (drop (i + 1) places)) (parts_admit q trees places)
    c.if-not-mark.true (part_admits trees c.args.marked.now places (drop i places) (drop (i + 1) places)
    (get_or places i 0) c.in-Some.mark.now known (drop_at places i 0 c.loop-place-test.true)
    (sym c.in-Some.ensures.item) q (c.loop-place.invariant trees known q))
