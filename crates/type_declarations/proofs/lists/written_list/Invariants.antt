use Rattle.std.proofs.Common.{◌≡◌, take}
use Rattle.core_scopes.specs.Scopes.{written_rows}
use Rattle.type_declarations.specs.Binding.{row_ids}
use Rattle.type_declarations.proofs.lists.written_list.Given as goal

abbrev pub invariant-loop-row : goal.invariant-loop-row
invariant-loop-row l = written_rows l.written ≡ row_ids (take l.row-index l.list)
