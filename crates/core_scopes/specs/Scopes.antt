-- What is in scope where a phrase is elaborated: the environment that results from an environment of a graph and what
-- was bound over it, and the written type variables. The Definition of Standard ML (Revised), sections 4.2 and 4.3.
use Rattle.std.specs.Prelude.{◌≡◌, ℕ, List, [], ◌∷◌, drop, reverse, map, Option, Some, None, if◌then◌else◌}
use Rattle.semantic_objects.specs.declared.name.TyId.{TyId}
use Rattle.semantic_objects.specs.declared.entry.TypeStr.{TypeStr}
use Rattle.semantic_objects.specs.declared.entry.ValueEntry.{ValueEntry}
use Rattle.semantic_objects.specs.Tables.{Table, with_all}
use Rattle.semantic_objects.specs.Environments.{Env, env_of, structures, types, values}
use Rattle.sml_modules.specs.declared.id.EnvId.{EnvId}
use Rattle.sml_modules.specs.Items.{map_rows}
use Rattle.sml_modules.specs.Graphs.{Graph, env_at, HasEnv}
use Rattle.name_trails.specs.Trails.{Rows, same}
use Rattle.core_scopes.specs.declared.value.ValueInScope.{ValueInScope}
use Rattle.core_scopes.specs.declared.value.ValueInScope.TheVariants as value
use Rattle.core_scopes.specs.declared.value.BoundValue.{BoundValue}
use Rattle.core_scopes.specs.declared.written.InScope.{InScope}

-- an environment of a graph; what was bound over it, each kind in the order of its bindings; and of the written type
-- variables how many first ones aren't in scope
pub record Bindings (V : Type 0) : Type 0 where
  pub below : EnvId
  pub structures : Rows EnvId
  pub types : Rows TypeStr
  pub values : Rows (BoundValue V)
  pub written : Rows TyId
  pub hidden : ℕ

-- a value as an entry of an environment, where `read` tells what the unit's own values are
abbrev pub entry_of : {V : Type 0} → (V → ValueEntry) → ValueInScope V → ValueEntry
entry_of read (value.Entry entry) = entry
entry_of read (value.Own own) = read own

-- .. as it is bound
abbrev pub bound_entry : {V : Type 0} → (V → ValueEntry) → BoundValue V → ValueEntry
bound_entry read bound = entry_of read bound.value

abbrev pub value_of : {V : Type 0} → BoundValue V → ValueInScope V
value_of bound = bound.value

-- a value of which a table has nothing
abbrev pub bare : {V : Type 0} → ValueInScope V → BoundValue V
bare x = record { value = x; scheme = None }

-- what holds of each row
abbrev pub AreHeld : {A : Type 0} → (A → Type 0) → Rows A → Type 0
AreHeld P [] = Unit {0}
AreHeld P (row ∷ rows) = P row.1 × AreHeld P rows

-- a table has nothing of what is bound
abbrev pub IsBare : {V : Type 0} → BoundValue V → Type 0
IsBare bound = bound.scheme ≡ None

abbrev pub AreBare : {V : Type 0} → Bindings V → Type 0
AreBare sc = AreHeld IsBare sc.values

-- the tables of what is in scope: of two bindings of one name the later counts
abbrev pub structures_seen : {V : Type 0} → Graph → Bindings V → Table Env
structures_seen g sc = with_all (map_rows (env_at g) sc.structures) (structures (env_at g sc.below))

abbrev pub types_seen : {V : Type 0} → Graph → Bindings V → Table TypeStr
types_seen g sc = with_all sc.types (types (env_at g sc.below))

abbrev pub values_seen : {V : Type 0} → Graph → (V → ValueEntry) → Bindings V → Table ValueEntry
values_seen g read sc = with_all (map_rows (bound_entry read) sc.values) (values (env_at g sc.below))

-- the environment in scope
abbrev pub seen : {V : Type 0} → Graph → (V → ValueEntry) → Bindings V → Env
seen g read sc = env_of (structures_seen g sc) (types_seen g sc) (values_seen g read sc)

-- the written type variables in scope with what stands for each. Where two have one name the first counts
abbrev pub written_of : {V : Type 0} → Bindings V → Rows TyId
written_of sc = reverse (drop sc.hidden sc.written)

-- what the first row of a name gives it
abbrev pub first_entry : {A : Type 0} → Rows A → List ℕ → Option A
first_entry [] name = None
first_entry (row ∷ rows) name = if same row.0 name then Some row.1 else first_entry rows name

abbrev pub written_rows : List InScope → Rows TyId
written_rows rows = map (λ (row : InScope). (row.name, row.is)) rows

-- rows whose environments are of the graph
abbrev pub AreEnvs : Graph → Rows EnvId → Type 0
AreEnvs g [] = Unit {0}
AreEnvs g (row ∷ rows) = HasEnv g row.1 × AreEnvs g rows

-- the environments of a scope are of the graph
pub record IsScopeOf {V : Type 0} (g : Graph) (sc : Bindings V) : Type 0 where
  pub below : HasEnv g sc.below
  pub structures : AreEnvs g sc.structures
