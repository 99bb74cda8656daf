-- Well-formed types over known type names, and how these grow.
use Rattle.std.specs.Prelude.{◌≡◌, ℕ, ◌<◌, ◌≤◌, List, [], ◌∷◌, length, Bool, true, ◌&&◌, ◌⊎◌, eqb}
use Rattle.std.specs.List.{list_all}
use Rattle.std.specs.Ordering.{is_lt}
use Rattle.semantic_objects.specs.declared.name.Owner.TheVariants as owner
use Rattle.semantic_objects.specs.declared.name.TyName.{TyName}
use Rattle.semantic_objects.specs.declared.symbol.Symbol.TheVariants as symbol
use Rattle.semantic_objects.specs.Tables.{by_bytes}
use Rattle.inference_laws.specs.Nodes.{Nodes}

-- labels that rise strictly by their bytes
abbrev pub are_rising : List (List ℕ) → Bool
are_rising [] = true
are_rising (label ∷ []) = true
are_rising (label ∷ next ∷ rest) = is_lt (by_bytes label next) && are_rising (next ∷ rest)

-- two parts below an arrow; as many as there are labels below a record, whose labels are good and rise; as many as its
-- arity below a type name, which is known
abbrev pub well_formed : (List ℕ → Bool) → (TyName → Bool) → Nodes
well_formed good known symbol.Arrow parts = eqb parts 2
well_formed good known (symbol.Record labels) parts =
    eqb parts (length labels) && (are_rising labels && list_all good labels)
well_formed good known (symbol.Name name) parts = eqb parts name.arity && known name

-- there is one arity and one equality for each number of an owner, and the unit's numbers are below the next one
pub record AreKnown (home : List ℕ) (next : ℕ) (known : TyName → Bool) : Type 0 where
  pub one : (m n : TyName) → known m ≡ true → known n ≡ true → m.owner ≡ n.owner → m.number ≡ n.number → m ≡ n
  pub below : (n : TyName) → known n ≡ true → n.owner ≡ owner.«Unit» home → n.number < next

-- a name of a unit with a number from one up to below another
pub record IsBetween (home : List ℕ) (from to : ℕ) (name : TyName) : Type 0 where
  pub owner : name.owner ≡ owner.«Unit» home
  pub from_on : from ≤ name.number
  pub below : name.number < to

-- what is known later on: all that was, and names of the unit with the numbers that were made since
pub record KnowsMore (home : List ℕ) (from to : ℕ) (known later : TyName → Bool) : Type 0 where
  pub kept : (n : TyName) → known n ≡ true → later n ≡ true
  pub new : (n : TyName) → later n ≡ true → (known n ≡ true) ⊎ IsBetween home from to n
  pub all : AreKnown home to later
