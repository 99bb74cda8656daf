-- What is made of datatypes: the schemes of their constructors. Only private functions cite this file.
use Rattle.std.specs.Prelude.{ℕ, suc, ◌+◌, List, [], ◌∷◌, length, map, get_or, slice_get, Option, Some, None, Bool, false}
use Rattle.semantic_objects.specs.declared.name.TyName.{TyName}
use Rattle.semantic_objects.specs.declared.entry.ConEntry.{ConEntry}
use Rattle.semantic_objects.specs.declared.entry.TypeStr.{TypeStr}
use Rattle.semantic_objects.specs.Tables.{Table, with_entry}
use Rattle.semantic_objects.specs.Parts.{arrow_tree}
use Rattle.semantic_objects.specs.Trees.{Tree, TypeScheme, BindsBelow}
use Rattle.name_trails.specs.Trails.{Rows}
use Rattle.static_semantics.specs.BasicTypes.{is_equality_variable}
use Rattle.static_semantics.specs.DatatypeInference.{own_name, settled_symbol}
use Rattle.listed_types.specs.declared.listed.ListedType.{ListedType}
use Rattle.listed_types.specs.Mapped.{mapped}
use Rattle.datatype_elab.specs.declared.cons.ConRead.{ConRead}
use Rattle.datatype_elab.specs.declared.dats.DatRead.{DatRead}
use Rattle.datatype_elab.specs.OwnTypes.{own_tree}

abbrev pub con_tree : List ℕ → ℕ → List Bool → Tree → Option ListedType → Tree
con_tree home first choice of None = of
con_tree home first choice of (Some a) =
    arrow_tree (mapped Tree.Free (settled_symbol home first choice) a.tree ∷ of ∷ [])

abbrev pub con_scheme : List ℕ → ℕ → List Bool → List Bool → Tree → ConRead → TypeScheme
con_scheme home first choice marks of con =
    record { marks = marks; body = con_tree home first choice of con.arg }

-- an argument binds so many variables at most
abbrev pub ArgBinds : ℕ → Option ListedType → Type 0
ArgBinds k None = Unit {0}
ArgBinds k (Some a) = BindsBelow k a.tree

abbrev pub AreBound : ℕ → List ConRead → Type 0
AreBound k [] = Unit {0}
AreBound k (con ∷ cons) = ArgBinds k con.arg × AreBound k cons

-- ---- constructors by name

-- the place of each, from a first one on: of two of one name the first counts
abbrev pub places_from : ℕ → List ConRead → Table ℕ
places_from n [] = []
places_from n (con ∷ cons) = with_entry con.name n (places_from (suc n) cons)

-- the scheme of the constructor at a place; no definition rests on one where there is none
abbrev pub scheme_of : List ℕ → ℕ → List Bool → List Bool → Tree → Option ConRead → TypeScheme
scheme_of home first choice marks of None = record { marks = []; body = of }
scheme_of home first choice marks of (Some con) = con_scheme home first choice marks of con

abbrev pub scheme_in : List ℕ → ℕ → List Bool → List Bool → Tree → List ConRead → ℕ → TypeScheme
scheme_in home first choice marks of cons place = scheme_of home first choice marks of (slice_get cons place)

abbrev pub entry_at : (ℕ → TypeScheme) → List ℕ × ℕ → ConEntry
entry_at scheme row = record { name = row.0; scheme = scheme row.1 }

abbrev pub entries_of : List ℕ → ℕ → List Bool → List Bool → Tree → List ConRead → List ConEntry
entries_of home first choice marks of cons =
    map (entry_at (scheme_in home first choice marks of cons)) (places_from 0 cons)

-- ---- type structures

abbrev pub marks_of : Rows ℕ → List Bool
marks_of list = map (λ row. is_equality_variable row.0) list

-- the name of the datatype at a place
abbrev pub made_name : List ℕ → ℕ → List Bool → ℕ → DatRead → TyName
made_name home first choice place dat = own_name home (first + place) (length dat.list) (get_or choice place false)

abbrev pub type_of_name : List ℕ → ℕ → List Bool → List Bool → TyName → List ConRead → TypeStr
type_of_name home first choice marks name cons = record {
  function = record { arity = name.arity; body = own_tree name };
  cons = entries_of home first choice marks (own_tree name) cons;
}

abbrev pub made_type : List ℕ → ℕ → List Bool → ℕ → DatRead → TypeStr
made_type home first choice place dat =
    type_of_name home first choice (marks_of dat.list) (made_name home first choice place dat) dat.cons
