-- Environments that are opened, one after the other. Only private functions cite this file.
use Rattle.std.specs.Prelude.{◌≡◌, ◌++◌, List, [], ◌∷◌}
use Rattle.semantic_objects.specs.declared.entry.ValueEntry.{ValueEntry}
use Rattle.semantic_objects.specs.Environments.{Env, structures, types, values, empty_env, modified_by}
use Rattle.sml_modules.specs.declared.id.EnvId.{EnvId}
use Rattle.sml_modules.specs.declared.parts.NamedEnv.{NamedEnv}
use Rattle.sml_modules.specs.Items.{map_rows}
use Rattle.sml_modules.specs.Graphs.{Graph, env_at, HasEnv, HasEnvs, structure_rows, type_rows}
use Rattle.core_scopes.specs.declared.made.Made.{Made}
use Rattle.core_scopes.specs.declared.made.NamedInScope.{NamedInScope}
use Rattle.core_scopes.specs.declared.value.ValueInScope.{ValueInScope}
use Rattle.core_scopes.specs.declared.value.ValueInScope.TheVariants as value
use Rattle.core_scopes.specs.Listed.{scope_rows}
use Rattle.core_scopes.specs.Marks.{env_of_made}

-- all are of the graph
abbrev pub AllEnvs : Graph → List EnvId → Type 0
AllEnvs g [] = Unit {0}
AllEnvs g (id ∷ ids) = HasEnv g id × AllEnvs g ids

-- what they make of an environment, and what they are together
abbrev pub opened_after : Graph → List EnvId → Env → Env
opened_after g [] made = made
opened_after g (id ∷ ids) made = opened_after g ids (modified_by made (env_at g id))

abbrev pub opened_env : Graph → List EnvId → Env
opened_env g ids = opened_after g ids empty_env

-- structures, values and all entries of an environment behind others
pub record AddsStructures (g : Graph) (env : Env) (old new : List NamedEnv) : Type 0 where
  pub rows : structure_rows g new ≡ structure_rows g old ++ structures env
  pub there : HasEnvs g old → HasEnvs g new

abbrev pub as_held : {V : Type 0} → ValueEntry → ValueInScope V
as_held entry = value.Entry entry

abbrev pub AddsValues : {V : Type 0} → Env → List (NamedInScope V) → List (NamedInScope V) → Type 0
AddsValues {V} env old new =
    scope_rows new ≡ scope_rows old ++ map_rows (as_held) (values env)

pub record AddsEnv {V : Type 0} (g : Graph) (env : Env) (old new : Made V) : Type 0 where
  pub structures : AddsStructures g env old.structures new.structures
  pub types : type_rows new.types ≡ type_rows old.types ++ types env
  pub values : AddsValues env old.values new.values

-- the entries of opened environments
pub record IsOpened {V : Type 0} (g : Graph) (ids : List EnvId) (made : Made V) : Type 0 where
  pub env : (read : V → ValueEntry) → env_of_made g read made ≡ opened_env g ids
  pub there : HasEnvs g made.structures
