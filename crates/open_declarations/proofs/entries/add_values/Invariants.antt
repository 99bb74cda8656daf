use Rattle.std.proofs.Common.{◌≡◌, ◌++◌}
use Rattle.semantic_objects.specs.Environments.{values}
use Rattle.sml_modules.specs.Items.{map_rows}
use Rattle.sml_modules.specs.Graphs.{env_at}
use Rattle.core_scopes.specs.Listed.{scope_rows}
use Rattle.core_scopes.proofs.Tables.{rows_of}
use Rattle.open_declarations.specs.Opened.{as_held}
use Rattle.open_declarations.proofs.entries.add_values.Given as goal

-- what was added so far, and the entries of the names that are left
abbrev pub invariant-loop-name : goal.invariant-loop-name
invariant-loop-name g l =
    scope_rows l.entries ++ map_rows as_held
    (rows_of (values (env_at l.fn.g l.fn.env)) l.name-iterator.rest.items)
    ≡ scope_rows l.fn.entries ++ map_rows as_held (values (env_at l.fn.g l.fn.env))
