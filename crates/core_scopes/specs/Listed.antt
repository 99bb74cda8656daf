-- Bindings one by one: lists of entries with their names as rows.
use Rattle.std.specs.Prelude.{◌++◌, List, map, reverse}
use Rattle.sml_modules.specs.declared.id.EnvId.{EnvId}
use Rattle.sml_modules.specs.declared.parts.NamedEnv.{NamedEnv}
use Rattle.sml_modules.specs.Graphs.{type_rows}
use Rattle.name_trails.specs.Trails.{Rows}
use Rattle.core_scopes.specs.declared.made.MadeBound.{MadeBound}
use Rattle.core_scopes.specs.declared.made.NamedInScope.{NamedInScope}
use Rattle.core_scopes.specs.declared.value.ValueInScope.{ValueInScope}
use Rattle.core_scopes.specs.declared.value.BoundValue.{BoundValue}
use Rattle.core_scopes.specs.declared.value.NamedBound.{NamedBound}
use Rattle.core_scopes.specs.declared.written.InScope.{InScope}
use Rattle.core_scopes.specs.Scopes.{Bindings, written_rows}

abbrev pub env_rows : List NamedEnv → Rows EnvId
env_rows entries = map (λ (e : NamedEnv). (e.name, e.env)) entries

abbrev pub scope_rows : {V : Type 0} → List (NamedInScope V) → Rows (ValueInScope V)
scope_rows {V} entries = map (λ (e : NamedInScope V). (e.name, e.entry)) entries

-- values as they are bound
abbrev pub bound_rows : {V : Type 0} → List (NamedBound V) → Rows (BoundValue V)
bound_rows {V} entries = map (λ (e : NamedBound V). (e.name, e.bound)) entries

-- written type variables are bound, the last of them first
abbrev pub more_written : {V : Type 0} → List InScope → Bindings V → Bindings V
more_written rows sc = record sc { written = sc.written ++ reverse (written_rows rows) }

-- all of some lists is bound
abbrev pub more_made : {V : Type 0} → MadeBound V → Bindings V → Bindings V
more_made made sc = record sc {
  structures = sc.structures ++ env_rows made.structures;
  types = sc.types ++ type_rows made.types;
  values = sc.values ++ bound_rows made.values;
}
