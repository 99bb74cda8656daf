use Rattle.std.proofs.Common.{◌≡◌, take}
use Rattle.core_scopes.specs.Scopes.{written_rows}
use Rattle.value_closing.specs.OwnVariables.{id_rows}
use Rattle.value_closing.proofs.own.rows_of.Given as goal

abbrev pub invariant-loop-row : goal.invariant-loop-row
invariant-loop-row l = written_rows l.rows ≡ id_rows (take l.row-index l.own)
