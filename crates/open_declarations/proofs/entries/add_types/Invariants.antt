use Rattle.std.proofs.Common.{◌≡◌, ◌++◌}
use Rattle.semantic_objects.specs.Environments.{types}
use Rattle.sml_modules.specs.Graphs.{env_at, type_rows}
use Rattle.core_scopes.proofs.Tables.{rows_of}
use Rattle.open_declarations.proofs.entries.add_types.Given as goal

-- what was added so far, and the entries of the names that are left
abbrev pub invariant-loop-name : goal.invariant-loop-name
invariant-loop-name l =
    type_rows l.entries ++ rows_of (types (env_at l.fn.g l.fn.env)) l.name-iterator.rest.items
    ≡ type_rows l.fn.entries ++ types (env_at l.fn.g l.fn.env)
