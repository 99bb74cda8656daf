use Rattle.std.proofs.Common.{◌≡◌, ◌++◌}
use Rattle.semantic_objects.specs.Environments.{structures}
use Rattle.sml_modules.specs.Graphs.{env_at, HasEnvs, structure_rows}
use Rattle.core_scopes.proofs.Tables.{rows_of}
use Rattle.open_declarations.proofs.entries.add_structures.Given as goal

-- what was added so far, and the entries of the names that are left
abbrev pub invariant-loop-name : goal.invariant-loop-name
invariant-loop-name l = record {
  rows : structure_rows l.fn.g l.entries ++ rows_of (structures (env_at l.fn.g l.fn.env)) l.name-iterator.rest.items
      ≡ structure_rows l.fn.g l.fn.entries ++ structures (env_at l.fn.g l.fn.env);
  there : HasEnvs l.fn.g l.fn.entries → HasEnvs l.fn.g l.entries;
}
