use Rattle.environment_ages.proofs.Holding.{AllSoFar}
use Rattle.environment_ages.proofs.trees.parts_hold.Given as goal

abbrev pub invariant-loop-place : goal.invariant-loop-place
invariant-loop-place l = AllSoFar l.fn.held l.fn.places l.place-index
