-- The type variables that types of specifications are closed over, in a table. Only private functions cite this file.
use Rattle.std.specs.Prelude.{◌≡◌, ℕ, suc, ◌<◌, List, [], ◌∷◌, length, map, Bool}
use Rattle.sml_trees.specs.declared.name.Name.{Name}
use Rattle.semantic_objects.specs.declared.name.TyId.{TyId}
use Rattle.semantic_objects.specs.declared.name.TyId.TheVariants as id
use Rattle.unification.specs.Types.{Ty}
use Rattle.type_nodes.specs.Tables.{Table, state}
use Rattle.sml_modules.specs.Items.{map_rows}
use Rattle.sml_modules.specs.Graphs.{Graph}
use Rattle.name_trails.specs.Trails.{Rows}
use Rattle.static_semantics.specs.BasicTypes.{is_equality_variable}
use Rattle.static_semantics.specs.CoreInference.{implicit}
use Rattle.type_phrases.specs.Inferred.{progress}

abbrev pub texts_of : List Name → List (List ℕ)
texts_of names = map (λ (name : Name). name.text) names

-- the ids of a list's variables
abbrev pub row_ids : Rows ℕ → Rows TyId
row_ids rows = map_rows id.Variable rows

abbrev pub marks_of : Rows ℕ → List Bool
marks_of rows = map (λ (row : List ℕ × ℕ). is_equality_variable row.0) rows

-- variables of a table from a number on, for which nothing else stands
abbrev pub AreNumbered : Table → ℕ → Rows ℕ → Type 0
AreNumbered t first [] = Unit {0}
AreNumbered t first (row ∷ rows) =
    (row.1 ≡ first) × (row.1 < length t.births) × ((state t).stands row.1 ≡ Ty.Var row.1) × AreNumbered t (suc first) rows

-- .. from any number on
pub record IsListIn (t : Table) (list : Rows ℕ) : Type 0 where
  pub first : ℕ
  pub numbered : AreNumbered t first list

-- new variables for names
pub record IsListedFrom (g : Graph) (old new : Table) (names : List Name) (list : Rows ℕ) : Type 0 where
  pub is : implicit [] (texts_of names) [] (progress old g) ≡ (list, progress new g)
  pub there : IsListIn new list
