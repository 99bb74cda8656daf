use Rattle.std.proofs.Common.{◌≡◌, ◌++◌, length, take}
use Rattle.semantic_objects.specs.Environments.{structures}
use Rattle.sml_modules.specs.Items.{map_rows}
use Rattle.sml_modules.specs.Graphs.{env_at}
use Rattle.core_scopes.specs.Scopes.{AreEnvs}
use Rattle.core_scopes.proofs.Tables.{rows_of}
use Rattle.core_scopes.proofs.opened.open_structures.Given as goal

-- what was bound so far, and the entries of the names that are left
abbrev pub invariant-loop-name : goal.invariant-loop-name
invariant-loop-name l = record {
  bound : map_rows (env_at l.fn.g) l.trail ++ rows_of (structures (env_at l.fn.g l.fn.env)) l.name-iterator.rest.items
      ≡ map_rows (env_at l.fn.g) l.fn.trail ++ structures (env_at l.fn.g l.fn.env);
  there : AreEnvs l.fn.g l.fn.trail → AreEnvs l.fn.g l.trail;
  kept : take (length l.fn.trail) l.trail ≡ l.fn.trail;
}
