use Rattle.environment_ages.proofs.Holding.{part_next, part_fails, parts_done}
use Rattle.environment_ages.proofs.trees.parts_hold.Goals as goal

pub returns-then-not-holds : goal.returns-then-not-holds
returns-then-not-holds c = part_fails c.args.held.now c.args.places.now c.as_slice-place-items.result.now
    c.loop-place.place-index c.in-Some.holds.now c.as_slice-place-items.ensures c.loop-place-test.true
    c.in-Some.ensures.item c.if-not-holds.true c.loop-place.invariant

pub loop-place-preserved : goal.loop-place-preserved
loop-place-preserved c = part_next c.args.held.now c.args.places.now c.as_slice-place-items.result.now
    c.loop-place.place-index c.in-Some.holds.now c.as_slice-place-items.ensures c.loop-place-test.true
    c.in-Some.ensures.item c.if-not-holds.false c.loop-place.invariant

pub returns : goal.returns
returns c = parts_done c.args.held.now c.args.places.now c.as_slice-place-items.result.now c.loop-place.place-index
    c.as_slice-place-items.ensures c.loop-place-test.false c.loop-place.invariant
