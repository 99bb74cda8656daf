use Rattle.std.proofs.Common.{◌≡◌, take}
use Rattle.semantic_objects.specs.declared.entry.ValueEntry.{ValueEntry}
use Rattle.core_scopes.specs.Marks.{value_rows}
use Rattle.signature_parts.proofs.scoping.list_values.Given as goal

abbrev pub invariant-loop-row : goal.invariant-loop-row
invariant-loop-row g l = (read : g.row.V.Denot → ValueEntry) → value_rows read l.list ≡ take l.row-index l.rows
