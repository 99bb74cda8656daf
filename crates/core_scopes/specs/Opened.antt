-- Rows that an environment's entries are bound by. Only private functions cite this file.
use Rattle.std.specs.Prelude.{◌≡◌, ◌++◌, length, take}
use Rattle.semantic_objects.specs.declared.entry.ValueEntry.{ValueEntry}
use Rattle.semantic_objects.specs.Environments.{Env, structures, types, values}
use Rattle.sml_modules.specs.declared.id.EnvId.{EnvId}
use Rattle.sml_modules.specs.Items.{map_rows}
use Rattle.sml_modules.specs.Graphs.{Graph, env_at}
use Rattle.name_trails.specs.Trails.{Rows}
use Rattle.core_scopes.specs.declared.value.BoundValue.{BoundValue}
use Rattle.core_scopes.specs.declared.value.ValueInScope.TheVariants as value
use Rattle.core_scopes.specs.Scopes.{Bindings, AreEnvs, bare}

-- ids that stand for the structures of an environment, behind others
pub record OpensStructures (g : Graph) (env : Env) (old new : Rows EnvId) : Type 0 where
  pub stand : map_rows (env_at g) new ≡ map_rows (env_at g) old ++ structures env
  pub there : AreEnvs g old → AreEnvs g new

-- the values of an environment behind others
abbrev pub OpensValues : {V : Type 0} → Env → Rows (BoundValue V) → Rows (BoundValue V) → Type 0
OpensValues env old new = new ≡ old ++ map_rows (λ (entry : ValueEntry). bare (value.Entry entry)) (values env)

-- all of an environment over a scope
pub record Opens {V : Type 0} (g : Graph) (env : EnvId) (old new : Bindings V) : Type 0 where
  pub below : new.below ≡ old.below
  pub structures : OpensStructures g (env_at g env) old.structures new.structures
  pub types : new.types ≡ old.types ++ types (env_at g env)
  pub values : OpensValues (env_at g env) old.values new.values
  pub written : new.written ≡ old.written
  pub hidden : new.hidden ≡ old.hidden
  pub front_structures : take (length old.structures) new.structures ≡ old.structures
