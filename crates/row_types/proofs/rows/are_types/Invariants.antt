use Rattle.std.proofs.Common.{ℕ, ◌<◌, get_or, true}
use Rattle.row_types.specs.Told.{Stands}
use Rattle.row_types.proofs.rows.are_types.Given as goal

abbrev pub invariant-loop-place : goal.invariant-loop-place
invariant-loop-place l = (k : ℕ) → k < l.place-index → Stands l.fn.rows (get_or l.fn.places k 0) true
