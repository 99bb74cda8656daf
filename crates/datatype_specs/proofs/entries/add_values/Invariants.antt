use Rattle.std.proofs.Common.{◌≡◌, ◌++◌}
use Rattle.semantic_objects.specs.declared.entry.ValueEntry.{ValueEntry}
use Rattle.core_scopes.specs.Marks.{value_rows}
use Rattle.datatype_specs.proofs.entries.add_values.Given as goal

-- what was bound so far, and the entries that are left
abbrev pub invariant-loop-named : goal.invariant-loop-named
invariant-loop-named g l = (read : g.row.V.Denot → ValueEntry)
    → l.rows ++ value_rows read l.named-iterator.rest.items ≡ l.fn.rows ++ value_rows read l.fn.part
