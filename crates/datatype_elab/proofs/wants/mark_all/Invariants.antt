use Rattle.std.proofs.Common.{drop}
use Rattle.datatype_elab.proofs.Wanting.{MarkedSoFar}
use Rattle.datatype_elab.proofs.wants.mark_all.Given as goal

abbrev pub invariant-loop-place : goal.invariant-loop-place
invariant-loop-place l = MarkedSoFar l.fn.marks l.marks l.fn.places (drop l.place-index l.fn.places)
