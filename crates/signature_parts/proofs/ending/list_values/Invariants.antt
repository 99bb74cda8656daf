use Rattle.std.proofs.Common.{◌≡◌, take}
use Rattle.sml_modules.specs.Graphs.{value_rows}
use Rattle.signature_parts.proofs.ending.list_values.Given as goal

abbrev pub invariant-loop-row : goal.invariant-loop-row
invariant-loop-row l = value_rows l.list ≡ take l.row-index l.rows
