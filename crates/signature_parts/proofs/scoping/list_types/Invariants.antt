use Rattle.std.proofs.Common.{◌≡◌, take}
use Rattle.sml_modules.specs.Graphs.{type_rows}
use Rattle.signature_parts.proofs.scoping.list_types.Given as goal

abbrev pub invariant-loop-row : goal.invariant-loop-row
invariant-loop-row l = type_rows l.list ≡ take l.row-index l.rows
