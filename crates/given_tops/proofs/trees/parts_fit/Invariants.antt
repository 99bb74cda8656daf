use Rattle.given_tops.proofs.Holding.{AllSoFar}
use Rattle.given_tops.proofs.trees.parts_fit.Given as goal

abbrev pub invariant-loop-place : goal.invariant-loop-place
invariant-loop-place l = AllSoFar l.fn.held l.fn.places l.place-index
