-- What a replication makes, as lists of a scope. Only private functions cite this file.
use Rattle.std.specs.Prelude.{◌≡◌, ℕ, List, [], ◌∷◌, map}
use Rattle.semantic_objects.specs.declared.entry.ConEntry.{ConEntry}
use Rattle.semantic_objects.specs.declared.entry.TypeStr.{TypeStr}
use Rattle.semantic_objects.specs.declared.entry.ValueEntry.{ValueEntry}
use Rattle.semantic_objects.specs.declared.entry.VidStatus.TheVariants as status
use Rattle.sml_modules.specs.Graphs.{type_rows}
use Rattle.name_trails.specs.Trails.{Rows}
use Rattle.core_scopes.specs.declared.made.Made.{Made}
use Rattle.core_scopes.specs.declared.value.ValueInScope.{ValueInScope}
use Rattle.core_scopes.specs.declared.value.ValueInScope.TheVariants as value
use Rattle.core_scopes.specs.Listed.{scope_rows}

-- a constructor as a value
abbrev pub con_entry : ConEntry → ValueEntry
con_entry con = record { status = status.Constructor; scheme = con.scheme }

abbrev pub con_rows : {V : Type 0} → List ConEntry → Rows (ValueInScope V)
con_rows cons = map (λ (con : ConEntry). (con.name, value.Entry (con_entry con))) cons

-- a type structure under a name, and its constructors
pub record IsReplica {V : Type 0} (name : List ℕ) (found : TypeStr) (made : Made V) : Type 0 where
  pub structures : made.structures ≡ []
  pub types : type_rows made.types ≡ (name, found) ∷ []
  pub values : scope_rows made.values ≡ con_rows found.cons
