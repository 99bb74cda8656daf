use Rattle.std.proofs.Common.{◌≡◌, ◌++◌, length, take}
use Rattle.semantic_objects.specs.Environments.{types}
use Rattle.sml_modules.specs.Graphs.{env_at}
use Rattle.core_scopes.proofs.Tables.{rows_of}
use Rattle.core_scopes.proofs.opened.open_types.Given as goal

-- what was bound so far, and the entries of the names that are left
abbrev pub invariant-loop-name : goal.invariant-loop-name
invariant-loop-name l = record {
  bound : l.trail ++ rows_of (types (env_at l.fn.g l.fn.env)) l.name-iterator.rest.items
      ≡ l.fn.trail ++ types (env_at l.fn.g l.fn.env);
  kept : take (length l.fn.trail) l.trail ≡ l.fn.trail;
}
