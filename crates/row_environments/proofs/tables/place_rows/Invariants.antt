use Rattle.std.proofs.Common.{take}
use Rattle.row_environments.specs.Answers.{RowsPlaced}
use Rattle.row_environments.proofs.tables.place_rows.Given as goal

abbrev pub invariant-loop-row : goal.invariant-loop-row
invariant-loop-row l = RowsPlaced l.fn.told (take l.row-index l.fn.table) l.rows
