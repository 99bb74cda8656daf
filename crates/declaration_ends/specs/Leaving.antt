-- Looking for type names in a type of a table, each id once. Only private functions cite this file.
use Rattle.std.specs.Prelude.{◌≡◌, ℕ, ◌+◌, ◌<◌, List, [], ◌∷◌, ◌++◌, slice_get, Some, nat_eq, Bool, true, false, ◌⊎◌}
use Rattle.std.specs.Option.{is_some}
use Rattle.indexmap.specs.IndexMap.{get}
use Rattle.semantic_objects.specs.declared.name.TyId.{TyId}
use Rattle.semantic_objects.specs.declared.name.TyId.TheVariants as id
use Rattle.semantic_objects.specs.declared.symbol.Symbol.{Symbol}
use Rattle.unification.specs.Types.{Ty, size, size_all}
use Rattle.type_nodes.specs.Tables.{Table, whole, whole_all}
use Rattle.type_schemes.specs.Schemes.{HaveAll}
use Rattle.static_semantics.specs.CoreInference.{is_made_between, holds_made}
use Rattle.declaration_ends.specs.declared.passed.Passed.{Passed}

-- whether an id was looked at
abbrev pub has_passed : Passed → TyId → Bool
has_passed p (id.Variable v) = is_some (get nat_eq p.variables.numbers v)
has_passed p (id.Made i) = is_some (get nat_eq p.nodes.numbers i)

-- an id was added to those that were looked at
pub record Adds (old : Passed) (a : TyId) (new : Passed) : Type 0 where
  pub it : has_passed new a ≡ true
  pub kept : (b : TyId) → has_passed old b ≡ true → has_passed new b ≡ true
  pub only : (b : TyId) → has_passed new b ≡ true → (has_passed old b ≡ true) ⊎ (a ≡ b)

abbrev pub IsAdded : Passed → TyId → Bool → Passed → Type 0
IsAdded old a true new = Adds old a new
IsAdded old a false new = (has_passed old a ≡ true) × (new ≡ old)

-- at an id stands a variable, or a symbol that isn't such a name, over parts that are to be looked at behind others
pub record Opens (t : Table) (home : List ℕ) (from to : ℕ) (a : TyId) (before after : List TyId) : Type 0 where
  pub symbol : Symbol
  pub parts : List TyId
  pub is : whole t a ≡ Ty.Made symbol (whole_all t parts)
  pub clear : is_made_between home from to symbol ≡ false
  pub has : HaveAll t parts
  pub ids : after ≡ before ++ parts

pub record IsLone (t : Table) (a : TyId) (before after : List TyId) : Type 0 where
  pub number : ℕ
  pub is : whole t a ≡ Ty.Var number
  pub ids : after ≡ before

abbrev pub IsEntered : Table → List ℕ → ℕ → ℕ → TyId → List TyId → List TyId → Bool → Type 0
IsEntered t home from to a before after true = holds_made home from to (whole t a) ≡ true
IsEntered t home from to a before after false = IsLone t a before after ⊎ Opens t home from to a before after

-- an id was looked at, or is still to be
abbrev pub IsDue : Passed → List TyId → TyId → Type 0
IsDue p ids a = (has_passed p a ≡ true) ⊎ ((k : ℕ) × (slice_get ids k ≡ Some a))

-- what stands at an id that was looked at
pub record OverDue (t : Table) (home : List ℕ) (from to : ℕ) (p : Passed) (ids : List TyId) (a : TyId) : Type 0 where
  pub symbol : Symbol
  pub parts : List TyId
  pub is : whole t a ≡ Ty.Made symbol (whole_all t parts)
  pub clear : is_made_between home from to symbol ≡ false
  pub due : (k : ℕ) (b : TyId) → slice_get parts k ≡ Some b → IsDue p ids b

abbrev pub IsOver : Table → List ℕ → ℕ → ℕ → Passed → List TyId → TyId → Type 0
IsOver t home from to p ids a = ((n : ℕ) × (whole t a ≡ Ty.Var n)) ⊎ OverDue t home from to p ids a

abbrev pub AllOver : Table → List ℕ → ℕ → ℕ → Passed → List TyId → Type 0
AllOver t home from to p ids = (a : TyId) → has_passed p a ≡ true → IsOver t home from to p ids a

-- if a name stands in one of these, one stands at an id
abbrev pub Lead : Table → List ℕ → ℕ → ℕ → TyId → List TyId → Type 0
Lead t home from to root ids = (k : ℕ) (b : TyId) → slice_get ids k ≡ Some b
    → holds_made home from to (whole t b) ≡ true → holds_made home from to (whole t root) ≡ true

-- a step was made
pub record SteppedOn (t : Table) (home : List ℕ) (from to : ℕ) (a : TyId) (old new : Passed) (before after : List TyId)
    : Type 0 where
  pub have : HaveAll t before → HaveAll t after
  pub lead : (root : TyId) → (holds_made home from to (whole t a) ≡ true → holds_made home from to (whole t root) ≡ true)
      → Lead t home from to root before → Lead t home from to root after
  pub due : (b : TyId) → IsDue old (before ++ a ∷ []) b → IsDue new after b
  pub over : AllOver t home from to old (before ++ a ∷ []) → AllOver t home from to new after
  pub less : size_all (whole_all t after) < size_all (whole_all t before) + size (whole t a)

abbrev pub IsStepped : Table → List ℕ → ℕ → ℕ → TyId → Passed → Passed → List TyId → List TyId → Bool → Type 0
IsStepped t home from to a old new before after true = holds_made home from to (whole t a) ≡ true
IsStepped t home from to a old new before after false = SteppedOn t home from to a old new before after

-- what holds before each step
pub record IsWalk (t : Table) (home : List ℕ) (from to : ℕ) (root : TyId) (p : Passed) (ids : List TyId) : Type 0 where
  pub have : HaveAll t ids
  pub lead : Lead t home from to root ids
  pub due : IsDue p ids root
  pub over : AllOver t home from to p ids
