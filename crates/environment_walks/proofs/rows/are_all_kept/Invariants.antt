use Rattle.std.proofs.Common.{drop}
use Rattle.environment_walks.specs.Changing.{AllStay}
use Rattle.environment_walks.proofs.rows.are_all_kept.Given as goal

abbrev pub invariant-loop-place : goal.invariant-loop-place
invariant-loop-place l = AllStay l.fn.images (drop l.place-index l.fn.places) → AllStay l.fn.images l.fn.places
