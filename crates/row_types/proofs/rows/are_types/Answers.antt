use Rattle.std.proofs.Common.{arith}
use Rattle.row_types.proofs.Parts.{parts_are}
use Rattle.row_types.proofs.rows.are_types.Goals as goal

pub returns : goal.returns
returns c = λ home made told.
    parts_are home made c.args.rows.now c.args.places.now told
    (λ k lt. c.loop-place.invariant k (omega (arith, lt)))
