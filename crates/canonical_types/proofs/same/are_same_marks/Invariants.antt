use Rattle.std.proofs.Common.{◌≡◌, take}
use Rattle.canonical_types.proofs.same.are_same_marks.Given as goal

abbrev pub invariant-loop-at : goal.invariant-loop-at
invariant-loop-at l = take l.at l.fn.these ≡ take l.at l.fn.those
