use Rattle.std.proofs.Common.{◌≡◌, take}
use Rattle.value_closing.specs.Groups.{own_rows}
use Rattle.value_closing.proofs.group.variables_in.Given as goal

abbrev pub invariant-loop-row : goal.invariant-loop-row
invariant-loop-row l = own_rows l.variables ≡ take l.row-index l.rows
