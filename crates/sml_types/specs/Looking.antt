-- What stands at an id with what was put in for variables, and record types of fields.
-- The Definition of Standard ML (Revised), section 4.2.
use Rattle.std.specs.Prelude.{◌≡◌, ℕ, List, [], ◌∷◌, map, Bool, IsPermutation}
use Rattle.semantic_objects.specs.declared.name.TyId.{TyId}
use Rattle.semantic_objects.specs.declared.symbol.Symbol.TheVariants as symbol
use Rattle.semantic_objects.specs.Symbols.{AreRising}
use Rattle.unification.specs.Types.{Ty}
use Rattle.type_nodes.specs.Tables.{Table, state, whole, whole_all, types_of}
use Rattle.type_schemes.specs.Schemes.{HaveAll}
use Rattle.sml_types.specs.declared.look.Look.{Look}
use Rattle.sml_types.specs.declared.look.Look.TheVariants as look
use Rattle.sml_types.specs.declared.look.LookField.{LookField}

abbrev pub labels_of : List LookField → List (List ℕ)
labels_of fields = map (λ (f : LookField). f.label) fields

abbrev pub ids_of : List LookField → List TyId
ids_of fields = map (λ (f : LookField). f.part) fields

-- a variable for which nothing stands
pub record LooksVariable (t : Table) (a : TyId) (eq rigid : Bool) : Type 0 where
  pub number : ℕ
  pub is : whole t a ≡ Ty.Var number
  pub marked : eq ≡ (state t).marks number
  pub alone : rigid ≡ (state t).rigid number

-- a record type, with its labels in rising byte order
pub record LooksRecord (t : Table) (a : TyId) (fields : List LookField) : Type 0 where
  pub is : whole t a ≡ Ty.Made (symbol.Record (labels_of fields)) (whole_all t (ids_of fields))
  pub rising : AreRising (labels_of fields)
  pub has : HaveAll t (ids_of fields)

abbrev pub IsLook : Table → TyId → Look → Type 0
IsLook t a (look.Variable eq rigid) = LooksVariable t a eq rigid
IsLook t a (look.Record fields) = LooksRecord t a fields
IsLook t a (look.Arrow from to) =
    (whole t a ≡ Ty.Made symbol.Arrow (whole_all t (from ∷ to ∷ []))) × HaveAll t (from ∷ to ∷ [])
IsLook t a (look.Named name args) = (whole t a ≡ Ty.Made (symbol.Name name) (whole_all t args)) × HaveAll t args

-- labels and ids of fields, in rising byte order of the labels
pub record AreSorted (fields : List LookField) (labels : List (List ℕ)) (ids : List TyId) : Type 0 where
  pub sorted : List LookField
  pub permutation : IsPermutation fields sorted
  pub rising : AreRising labels
  pub labels_are : labels ≡ labels_of sorted
  pub ids_are : ids ≡ ids_of sorted

-- a record type of these labels and the types at these ids, whichever order they came in
pub record IsRecordType (t : Table) (labels : List (List ℕ)) (ids : List TyId) (u : Ty) : Type 0 where
  pub fields : List LookField
  pub given_labels : labels_of fields ≡ labels
  pub given_ids : ids_of fields ≡ ids
  pub sorted : List LookField
  pub permutation : IsPermutation fields sorted
  pub rising : AreRising (labels_of sorted)
  pub is : u ≡ Ty.Made (symbol.Record (labels_of sorted)) (types_of t (ids_of sorted))
