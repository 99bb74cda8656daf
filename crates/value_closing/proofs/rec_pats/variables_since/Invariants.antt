use Rattle.std.proofs.Common.{◌≡◌, take}
use Rattle.value_closing.proofs.rec_pats.variables_since.Given as goal

abbrev pub invariant-loop-row : goal.invariant-loop-row
invariant-loop-row l = l.since ≡ take l.row-index l.rows
