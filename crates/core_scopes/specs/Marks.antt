-- Scopes that are entered and left, and what was bound in them.
use Rattle.std.specs.Prelude.{◌≡◌, ◌≤◌, List, [], ◌++◌, length, take, drop, map}
use Rattle.semantic_objects.specs.declared.name.TyId.{TyId}
use Rattle.semantic_objects.specs.declared.entry.ValueEntry.{ValueEntry}
use Rattle.semantic_objects.specs.Tables.{Table, with_all}
use Rattle.semantic_objects.specs.Environments.{Env, env_of, modified_by}
use Rattle.sml_modules.specs.declared.id.EnvId.{EnvId}
use Rattle.sml_modules.specs.Items.{map_rows}
use Rattle.sml_modules.specs.Graphs.{Graph, HasEnvs, structure_rows, type_rows}
use Rattle.name_trails.specs.Trails.{Rows}
use Rattle.core_scopes.specs.declared.mark.ScopeMark.{ScopeMark}
use Rattle.core_scopes.specs.declared.made.Made.{Made}
use Rattle.core_scopes.specs.declared.made.MadeBound.{MadeBound}
use Rattle.core_scopes.specs.declared.value.ValueInScope.{ValueInScope}
use Rattle.core_scopes.specs.declared.value.BoundValue.{BoundValue}
use Rattle.core_scopes.specs.declared.made.NamedInScope.{NamedInScope}
use Rattle.core_scopes.specs.Scopes.{Bindings, value_of, bare, bound_entry, seen, written_of, entry_of, IsScopeOf}
use Rattle.core_scopes.specs.Listed.{env_rows, scope_rows, bound_rows}

-- the mark that remembers a scope
abbrev pub mark_of : {V : Type 0} → Bindings V → ScopeMark
mark_of sc = record {
  structures = length sc.structures;
  types = length sc.types;
  values = length sc.values;
  written = length sc.written;
  hidden = sc.hidden;
}

-- nothing that was bound in the first scope was taken back since
pub record IsFrontOf {V : Type 0} (past now : Bindings V) : Type 0 where
  pub below : now.below ≡ past.below
  pub structures : take (length past.structures) now.structures ≡ past.structures
  pub types : take (length past.types) now.types ≡ past.types
  pub values : take (length past.values) now.values ≡ past.values
  pub written : take (length past.written) now.written ≡ past.written
  pub hidden : past.hidden ≤ length past.written

-- a scope over an environment, in which nothing is bound yet
abbrev pub outermost : {V : Type 0} → EnvId → Bindings V
outermost below = record { below = below; structures = []; types = []; values = []; written = []; hidden = 0 }

-- what a call that binds makes of a scope: the environment in scope, by what the unit's own values are, and the written
-- type variables in scope. Marks of the scope stay good, and its environments are of the graph
pub record Becomes {V : Type 0} (g : Graph) (old new : Bindings V) (env : (V → ValueEntry) → Env) (rows : Rows TyId)
    : Type 0 where
  pub seen : (read : V → ValueEntry) → seen g read new ≡ env read
  pub written : written_of new ≡ rows
  pub front : IsFrontOf old new
  pub there : IsScopeOf g old → IsScopeOf g new

-- the values of a list with their names, as rows of a table
abbrev pub value_rows : {V : Type 0} → (V → ValueEntry) → List (NamedInScope V) → Table ValueEntry
value_rows {V} read entries = map (λ (e : NamedInScope V). (e.name, entry_of read e.entry)) entries

-- the environment of what was made
abbrev pub env_of_made : {V : Type 0} → Graph → (V → ValueEntry) → Made V → Env
env_of_made g read made = env_of
    (with_all (structure_rows g made.structures) [])
    (with_all (type_rows made.types) [])
    (with_all (value_rows read made.values) [])

-- .. where tables have some of it
abbrev pub env_of_bound : {V : Type 0} → Graph → (V → ValueEntry) → MadeBound V → Env
env_of_bound g read made = env_of
    (with_all (structure_rows g made.structures) [])
    (with_all (type_rows made.types) [])
    (with_all (map_rows (bound_entry read) (bound_rows made.values)) [])

-- values were bound behind those that there were
abbrev pub AddsBound : {V : Type 0} → Rows (BoundValue V) → Bindings V → Bindings V → Type 0
AddsBound rows old new = new.values ≡ old.values ++ rows

-- .. and a table has nothing of them
abbrev pub AddsBare : {V : Type 0} → Bindings V → Bindings V → Type 0
AddsBare {V} old new = (rows : Rows (ValueInScope V)) × AddsBound (map_rows bare rows) old new

-- what was bound since a scope, one entry a binding, in their order; so the environment in scope is what it was then,
-- modified by the environment of this
pub record IsMadeSince {V : Type 0} (past now : Bindings V) (made : Made V) : Type 0 where
  pub structures : env_rows made.structures ≡ drop (length past.structures) now.structures
  pub types : type_rows made.types ≡ drop (length past.types) now.types
  pub values : scope_rows made.values ≡ map_rows value_of (drop (length past.values) now.values)
  pub seen : (g : Graph) (read : V → ValueEntry)
      → seen g read now ≡ modified_by (seen g read past) (env_of_made g read made)
  pub there : (g : Graph) → IsScopeOf g now → HasEnvs g made.structures
