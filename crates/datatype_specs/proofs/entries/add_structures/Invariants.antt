use Rattle.std.proofs.Common.{◌≡◌, ◌++◌}
use Rattle.core_scopes.specs.Listed.{env_rows}
use Rattle.datatype_specs.proofs.entries.add_structures.Given as goal

-- what was bound so far, and the entries that are left
abbrev pub invariant-loop-entry : goal.invariant-loop-entry
invariant-loop-entry l = l.rows ++ env_rows l.entry-iterator.rest.items ≡ l.fn.rows ++ env_rows l.fn.part
