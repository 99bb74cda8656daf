use Rattle.std.proofs.Common.{◌≡◌, ◌++◌}
use Rattle.sml_modules.specs.Graphs.{type_rows}
use Rattle.datatype_specs.proofs.entries.add_types.Given as goal

-- what was bound so far, and the entries that are left
abbrev pub invariant-loop-named : goal.invariant-loop-named
invariant-loop-named l = l.rows ++ type_rows l.named-iterator.rest.items ≡ l.fn.rows ++ type_rows l.fn.part
