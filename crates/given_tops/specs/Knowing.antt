-- What stands for the variables of a table, by the answers for its nodes. Only private functions cite this file.
use Rattle.std.specs.Prelude.{◌≡◌, ℕ, ◌<◌, ◌≤◌, List, [], ◌∷◌, slice_get, Some, Bool, true, false}
use Rattle.semantic_objects.specs.declared.name.TyId.{TyId}
use Rattle.semantic_objects.specs.declared.name.TyId.TheVariants as id
use Rattle.semantic_objects.specs.declared.symbol.Symbol.{Symbol}
use Rattle.unification.specs.Types.{Ty, size}
use Rattle.type_nodes.specs.Tables.{Table, state, whole, whole_all}
use Rattle.inference_laws.specs.Nodes.{Nodes, TyOf}

-- what stands for variables is made of such nodes, where it is smaller than a size
abbrev pub UpTo : Table → Nodes → ℕ → Type 0
UpTo t q n = (v : ℕ) → size ((state t).stands v) < n → TyOf q ((state t).stands v)

-- what an id stands for is made of such nodes, where what is smaller than it is
abbrev pub IsSure : Table → Nodes → TyId → Type 0
IsSure t q a = (n : ℕ) → UpTo t q n → size (whole t a) ≤ n → TyOf q (whole t a)

-- .. where what is as large as it is too
abbrev pub IsNear : Table → Nodes → TyId → Type 0
IsNear t q a = (n : ℕ) → UpTo t q n → size (whole t a) < n → TyOf q (whole t a)

-- what an answer for an id says; for a part of one
abbrev pub Says : Table → Nodes → TyId → Bool → Type 0
Says t q a true = IsSure t q a
Says t q a false = TyOf q (whole t a) → ⊥

abbrev pub SaysPart : Table → Nodes → TyId → Bool → Type 0
SaysPart t q a true = IsNear t q a
SaysPart t q a false = TyOf q (whole t a) → ⊥

-- .. for each id at which a symbol with these parts stands
abbrev pub SaysMade : Table → Nodes → Symbol → List TyId → Bool → Type 0
SaysMade t q c ids b = (a : TyId) → whole t a ≡ Ty.Made c (whole_all t ids) → Says t q a b

-- .. for all parts of one
abbrev pub AreNear : Table → Nodes → List TyId → Type 0
AreNear t q [] = Unit {0}
AreNear t q (a ∷ ids) = IsNear t q a × AreNear t q ids

abbrev pub AreOf : Table → Nodes → List TyId → Type 0
AreOf t q [] = Unit {0}
AreOf t q (a ∷ ids) = TyOf q (whole t a) × AreOf t q ids

abbrev pub SaysAll : Table → Nodes → List TyId → Bool → Type 0
SaysAll t q ids true = AreNear t q ids
SaysAll t q ids false = AreOf t q ids → ⊥

-- the answers for the first nodes say so
pub record AreTold (t : Table) (q : Nodes) (held : List Bool) : Type 0 where
  pub each : (i : ℕ) (b : Bool) → slice_get held i ≡ Some b → Says t q (id.Made i) b
