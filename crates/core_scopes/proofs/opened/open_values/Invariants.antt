use Rattle.std.proofs.Common.{◌≡◌, ◌++◌, length, take}
use Rattle.semantic_objects.specs.declared.entry.ValueEntry.{ValueEntry}
use Rattle.semantic_objects.specs.Environments.{values}
use Rattle.sml_modules.specs.Items.{map_rows}
use Rattle.sml_modules.specs.Graphs.{env_at}
use Rattle.core_scopes.specs.declared.value.ValueInScope.TheVariants as value
use Rattle.core_scopes.specs.Scopes.{bare}
use Rattle.core_scopes.proofs.Tables.{rows_of}
use Rattle.core_scopes.proofs.opened.open_values.Given as goal

-- what was bound so far, and the entries of the names that are left
abbrev pub invariant-loop-name : goal.invariant-loop-name
invariant-loop-name g l = record {
  bound : l.trail ++ map_rows (λ (entry : ValueEntry). bare (value.Entry entry))
      (rows_of (values (env_at l.fn.g l.fn.env)) l.name-iterator.rest.items)
      ≡ l.fn.trail ++ map_rows (λ (entry : ValueEntry). bare (value.Entry entry)) (values (env_at l.fn.g l.fn.env));
  kept : take (length l.fn.trail) l.trail ≡ l.fn.trail;
}
