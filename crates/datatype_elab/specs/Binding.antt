-- What datatypes bind, as lists of a scope. Only private functions cite this file.
use Rattle.std.specs.Prelude.{◌≡◌, ℕ, List, [], ◌∷◌, ◌++◌, length, map}
use Rattle.semantic_objects.specs.declared.entry.ConEntry.{ConEntry}
use Rattle.semantic_objects.specs.declared.entry.TypeStr.{TypeStr}
use Rattle.semantic_objects.specs.declared.entry.ValueEntry.{ValueEntry}
use Rattle.semantic_objects.specs.declared.entry.VidStatus.TheVariants as status
use Rattle.sml_modules.specs.Graphs.{type_rows}
use Rattle.name_trails.specs.Trails.{Rows}
use Rattle.core_scopes.specs.declared.made.Made.{Made}
use Rattle.core_scopes.specs.declared.value.ValueInScope.{ValueInScope}
use Rattle.core_scopes.specs.declared.value.ValueInScope.TheVariants as value
use Rattle.core_scopes.specs.Listed.{scope_rows}
use Rattle.datatype_elab.specs.declared.dats.DatRead.{DatRead}
use Rattle.datatype_elab.specs.Making.{AreBound}

-- a constructor as a value
abbrev pub con_value : ConEntry → ValueEntry
con_value con = record { status = status.Constructor; scheme = con.scheme }

abbrev pub con_values : {V : Type 0} → List ConEntry → Rows (ValueInScope V)
con_values cons = map (λ (con : ConEntry). (con.name, value.Entry (con_value con))) cons

-- a type structure under a name and its constructors are bound besides
pub record AddsType {V : Type 0} (made : Made V) (name : List ℕ) (entry : TypeStr) (new : Made V) : Type 0 where
  pub structures : new.structures ≡ made.structures
  pub types : type_rows new.types ≡ type_rows made.types ++ (name, entry) ∷ []
  pub values : scope_rows new.values ≡ scope_rows made.values ++ con_values entry.cons

-- the arguments of all datatypes bind variables of their lists alone
abbrev pub AllBound : List DatRead → Type 0
AllBound [] = Unit {0}
AllBound (dat ∷ dats) = AreBound (length dat.list) dat.cons × AllBound dats
