-- What a sort of the units by rank and name says. Only private functions cite this file.
use Rattle.std.specs.Prelude.{◌≡◌, ℕ, ◌<◌, List, length, map, slice_index_or, All, Contains, IsSorted}
use Rattle.std.specs.Ordering.{ordering_then, nat_cmp}
use Rattle.std.specs.Cmp.Lexicographic.{slice_cmp}
use Rattle.std.specs.declared.cmp.Ordering.{Ordering}
use Rattle.dependency_graph.specs.Order.{name_of, by_rank, Placed}
use Rattle.dependency_graph.specs.declared.ranked.Ranked.{Ranked}

-- the order of what is sorted: by rank, by name, and by number
abbrev pub ranked_cmp : Ranked → Ranked → Ordering
ranked_cmp a b =
    ordering_then (nat_cmp a.rank b.rank) (ordering_then (slice_cmp nat_cmp a.name b.name) (nat_cmp a.unit b.unit))

-- the unit's rank and name are those of its number
pub record IsRanked (names : List (List ℕ)) (ranks : List ℕ) (ranked : Ranked) : Type 0 where
  pub known : ranked.unit < length names
  pub rank : ranked.rank ≡ slice_index_or ranks ranked.unit 0
  pub name : ranked.name ≡ name_of names ranked.unit

-- the first units, each once, with rank and name
pub record AreRanked (names : List (List ℕ)) (ranks : List ℕ) (count : ℕ) (all : List Ranked) : Type 0 where
  pub counted : length all ≡ count
  pub every : (unit : ℕ) → unit < count → Contains (map (λ ranked. ranked.unit) all) unit
  pub each : All (IsRanked names ranks) all

-- all units, sorted
pub record IsSortedOrder (names : List (List ℕ)) (ranks : List ℕ) (all : List Ranked) : Type 0 where
  pub whole : AreRanked names ranks (length names) all
  pub sorted : IsSorted ranked_cmp all

-- all units with their noted ranks, sorted by rank and then by name
pub record IsPlacing (names : List (List ℕ)) (ranks : List ℕ) (order : List Placed) : Type 0 where
  pub counted : length order ≡ length names
  pub every : (unit : ℕ) → unit < length names → Contains (map (λ placed. placed.unit) order) unit
  pub noted : All (λ placed. (placed.unit < length names) × (placed.rank ≡ slice_index_or ranks placed.unit 0)) order
  pub sorted : IsSorted (by_rank names) order
