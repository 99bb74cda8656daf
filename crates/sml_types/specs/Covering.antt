-- Comparing schemes of a table, with what was put in for its variables.
-- The Definition of Standard ML (Revised), section 4.5.
use Rattle.std.specs.Prelude.{◌≡◌, ℕ, ◌<◌, ◌≤◌, List, [], slice_get, Some, Bool, true, false, ◌⊎◌}
use Rattle.semantic_objects.specs.declared.name.TyId.{TyId}
use Rattle.semantic_objects.specs.declared.symbol.Symbol.TheVariants as symbol
use Rattle.semantic_objects.specs.Trees.{TypeScheme}
use Rattle.unification.specs.Types.{Ty, Types, Substitution, State, occurs_any}
use Rattle.unification.specs.Unification.{Solves, LeavesRigid, MakesEqual, IsMostGeneral}
use Rattle.unification.specs.Instances.{IsMoreGeneral, with_variable}
use Rattle.unification.specs.Closing.{put_tree}
use Rattle.type_nodes.specs.Tables.{Table, Has, state, type_of, whole_all, bound_in, IsFrontOf}

-- a scheme with what stands for the variables of a table
abbrev pub put_scheme : State → TypeScheme → TypeScheme
put_scheme s σ = record { marks = σ.marks; body = put_tree s.stands σ.body }

-- every instance of the second scheme is one of the first, where variables of the table for which nothing stands stand
-- for themselves alone
abbrev pub CoversIn : Table → TypeScheme → TypeScheme → Type 0
CoversIn t g h = IsMoreGeneral (state t) (put_scheme (state t) g) (put_scheme (state t) h)

-- ---- what follows is cited by private functions alone

-- nothing was taken back, ids stay ids and what they were made as
pub record Follows (old new : Table) : Type 0 where
  pub front : IsFrontOf old new
  pub types : (a : TyId) → Has old a → type_of new a ≡ type_of old a
  pub ids : (a : TyId) → Has old a → Has new a

-- a type without variables, which admits equality
abbrev pub unit_type : Ty
unit_type = Ty.Made (symbol.Record []) Types.Nil

-- a rigid variable is named after an older variable that is marked where it is
pub record IsNamed (own : ℕ) (s r : State) (names : Substitution) (w : ℕ) : Type 0 where
  pub rigid : r.rigid w ≡ true
  pub of : ℕ
  pub older : of < own
  pub is : names w ≡ Ty.Var of
  pub marked : r.marks w ≡ true → s.marks of ≡ true

-- rigid variables were put in for some of the variables below `own`, and nothing else happened
pub record IsFreezing (own : ℕ) (s r : State) (names : Substitution) : Type 0 where
  pub later : Solves r s
  pub next : s.next ≤ r.next
  pub marks : (n : ℕ) → n < s.next → r.marks n ≡ s.marks n
  pub flags : (n : ℕ) → n < s.next → r.rigid n ≡ s.rigid n
  pub loose : (n : ℕ) → own ≤ n → n < s.next → (r.stands n ≡ Ty.Var n) × (r.rigid n ≡ false)
  pub named : (w : ℕ) → (names w ≡ unit_type) ⊎ IsNamed own s r names w
  pub rigid : (n : ℕ) → s.rigid n ≡ true → names n ≡ Ty.Var n

-- a rigid variable stands for this one
pub record IsFrozenAt (r : State) (names : Substitution) (n : ℕ) : Type 0 where
  pub name : ℕ
  pub stands : r.stands n ≡ Ty.Var name
  pub rigid : r.rigid name ≡ true
  pub is : names name ≡ Ty.Var n

-- a variable is rigid, and nothing happened
pub record StaysRigid (s r : State) (v : ℕ) : Type 0 where
  pub same : r ≡ s
  pub rigid : s.rigid v ≡ true
  pub alone : s.stands v ≡ Ty.Var v

-- a new rigid variable with its mark was put in for a variable
pub record GetsName (s r : State) (v : ℕ) : Type 0 where
  pub flexible : s.rigid v ≡ false
  pub alone : s.stands v ≡ Ty.Var v
  pub within : v < s.next
  pub is : r ≡ bound_in v (Ty.Var s.next) (with_variable true (s.marks v) s)
  pub later : Solves r s

abbrev pub Freezes : State → State → ℕ → Type 0
Freezes s r v = StaysRigid s r v ⊎ GetsName s r v

-- a variable below `own` is, and no other
abbrev pub FreezesBelow : ℕ → State → State → ℕ → Type 0
FreezesBelow own s r v = (v < own → Freezes s r v) × (own ≤ v → r ≡ s)

-- variables from `own` on are new ones
pub record HasOwn (own : ℕ) (s : State) : Type 0 where
  pub rigid : (n : ℕ) → s.rigid n ≡ true → n < own
  pub loose : (n : ℕ) → own ≤ n → (s.stands n ≡ Ty.Var n) × (s.rigid n ≡ false)

-- for the first of these variables that are below `own` a rigid one stands
pub record AreFrozen (own : ℕ) (s r : State) (vs : List ℕ) (count : ℕ) : Type 0 where
  pub names : Substitution
  pub freezing : IsFreezing own s r names
  pub each : (k n : ℕ) → k < count → slice_get vs k ≡ Some n → n < own → IsFrozenAt r names n

-- for all variables below `own` that stand in what ids stood for
pub record IsFrozen (own : ℕ) (t : Table) (ids : List TyId) (new : Table) : Type 0 where
  pub names : Substitution
  pub freezing : IsFreezing own (state t) (state new) names
  pub each : (n : ℕ) → occurs_any n (whole_all t ids) ≡ true → n < own → IsFrozenAt (state new) names n

-- whether a choice makes two types one
abbrev pub IsDecided : Ty → Ty → State → Bool → Type 0
IsDecided a b s true = (r : State) × IsMostGeneral s r (MakesEqual a b)
IsDecided a b s false = (p : State) → Solves p s → LeavesRigid p s → MakesEqual a b p → ⊥
