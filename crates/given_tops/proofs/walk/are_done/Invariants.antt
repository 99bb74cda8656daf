use Rattle.std.proofs.Common.{drop}
use Rattle.given_tops.specs.Walking.{AreDone}
use Rattle.given_tops.proofs.walk.are_done.Given as goal

abbrev pub invariant-loop-place : goal.invariant-loop-place
invariant-loop-place l = AreDone l.fn.done (drop l.place-index l.fn.places) → AreDone l.fn.done l.fn.places
