use Rattle.given_tops.proofs.Holding.{part_next, part_fails, parts_done}
use Rattle.given_tops.proofs.trees.parts_fit.Goals as goal

pub returns-then-not-fits : goal.returns-then-not-fits
returns-then-not-fits c = part_fails c.args.held.now c.args.places.now c.as_slice-place-items.result.now
    c.loop-place.place-index c.in-Some.fits.now c.as_slice-place-items.ensures c.loop-place-test.true
    c.in-Some.ensures.item c.if-not-fits.true c.loop-place.invariant

pub loop-place-preserved : goal.loop-place-preserved
loop-place-preserved c = part_next c.args.held.now c.args.places.now c.as_slice-place-items.result.now
    c.loop-place.place-index c.in-Some.fits.now c.as_slice-place-items.ensures c.loop-place-test.true
    c.in-Some.ensures.item c.if-not-fits.false c.loop-place.invariant

pub returns : goal.returns
returns c = parts_done c.args.held.now c.args.places.now c.as_slice-place-items.result.now c.loop-place.place-index
    c.as_slice-place-items.ensures c.loop-place-test.false c.loop-place.invariant
