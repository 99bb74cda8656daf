use Rattle.std.proofs.Common.{◌≡◌, take}
use Rattle.core_scopes.specs.Scopes.{written_rows}
use Rattle.signature_specs.specs.Variables.{row_ids}
use Rattle.signature_specs.proofs.variables.written_list.Given as goal

abbrev pub invariant-loop-row : goal.invariant-loop-row
invariant-loop-row l = written_rows l.written ≡ row_ids (take l.row-index l.list)
