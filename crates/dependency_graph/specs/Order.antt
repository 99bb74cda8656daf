-- The order of units by their edges: ranks, and the one list that goes by rank and then by name.
-- A unit is a number; `edges` has the list of each unit's providers, and `names` each unit's name.
use Rattle.std.specs.Prelude.{◌≡◌, ℕ, zero, suc, ◌<◌, ◌≤◌, List, [], length, map, slice_index_or, All, Contains, IsSorted}
use Rattle.std.specs.Ordering.{ordering_then, nat_cmp}
use Rattle.std.specs.Cmp.Lexicographic.{slice_cmp}
use Rattle.std.specs.declared.cmp.Ordering.{Ordering}

-- the providers of a unit
abbrev pub providers : List (List ℕ) → ℕ → List ℕ
providers edges unit = slice_index_or edges unit []

-- the name of a unit
abbrev pub name_of : List (List ℕ) → ℕ → List ℕ
name_of names unit = slice_index_or names unit []

-- no two units have one name
abbrev pub AllDiffer : List (List ℕ) → Type 0
AllDiffer names = (a b : ℕ) → a < length names → b < length names → name_of names a ≡ name_of names b → a ≡ b

-- each provider is a unit
abbrev pub AllAreUnits : List (List ℕ) → Type 0
AllAreUnits edges = All (λ list. All (λ unit. unit < length edges) list) edges

-- a walk of that many steps from one unit to another, each step from a unit to one of its providers
abbrev pub Walk : List (List ℕ) → ℕ → ℕ → ℕ → Type 0
Walk edges zero from to = from ≡ to
Walk edges (suc steps) from to = (next : ℕ) × Contains (providers edges from) next × Walk edges steps next to

-- the rank of a unit is the length of the longest chain of providers below it
pub record IsRank (edges : List (List ℕ)) (unit rank : ℕ) : Type 0 where
  pub reached : (last : ℕ) × Walk edges rank unit last
  pub longest : (steps last : ℕ) → Walk edges steps unit last → steps ≤ rank

-- a unit in the order, with its rank
pub record Placed : Type 0 where
  pub unit : ℕ
  pub rank : ℕ

-- the order of two units: by rank, then by name in byte order
abbrev pub by_rank : List (List ℕ) → Placed → Placed → Ordering
by_rank names a b =
    ordering_then (nat_cmp a.rank b.rank) (slice_cmp nat_cmp (name_of names a.unit) (name_of names b.unit))

-- the list of all units, each with its rank, sorted by rank and then by name
pub record IsOrder (names edges : List (List ℕ)) (order : List Placed) : Type 0 where
  pub counted : length order ≡ length names
  pub units : All (λ placed. placed.unit < length names) order
  pub every : (unit : ℕ) → unit < length names → Contains (map (λ placed. placed.unit) order) unit
  pub ranks : All (λ placed. IsRank edges placed.unit placed.rank) order
  pub sorted : IsSorted (by_rank names) order

-- each provider of a unit stands before it
abbrev pub AreProvidersFirst : List (List ℕ) → List Placed → Type 0
AreProvidersFirst edges order =
    (user provider : ℕ) (d : Placed) → user < length order → provider < length order →
    Contains (providers edges (slice_index_or order user d).unit) (slice_index_or order provider d).unit →
    provider < user

-- units in order with the rank that is noted for each
abbrev pub placed_units : List ℕ → List ℕ → List Placed
placed_units ranks units = map (λ u. record { unit = u; rank = slice_index_or ranks u 0 }) units
