-- The order of units as a value and the relations of order and cycle agree, in both directions.
use Rattle.std.specs.Prelude.{◌≡◌, ◌↔◌, ℕ, ◌<◌, List, length, Ok, Err}
use Rattle.dependency_graph.specs.Order.{AllAreUnits, AllDiffer, IsOrder, IsRank, Placed}
use Rattle.dependency_graph.specs.Cycle.{HasCycle, HasNoCycle, IsNearestCycle, IsOrdered}
use Rattle.dependency_graph.specs.Ordered.{ordered, rank_of}

-- units of differing names, each with its providers among them
pub record AreUnits (names edges : List (List ℕ)) : Type 0 where
  pub lists : length edges ≡ length names
  pub known : AllAreUnits edges
  pub apart : AllDiffer names

-- the value is a list exactly where that is the order of the units ..
abbrev pub OrderIsTheValue : Type 0
OrderIsTheValue = (names edges : List (List ℕ)) (order : List Placed) → AreUnits names edges
    → (ordered names edges ≡ Ok order) ↔ IsOrdered names edges order

-- .. and a cycle exactly where that is the reported one
abbrev pub CycleIsTheValue : Type 0
CycleIsTheValue = (names edges : List (List ℕ)) (cycle : List ℕ) → AreUnits names edges
    → (ordered names edges ≡ Err cycle) ↔ IsNearestCycle names edges cycle

-- there is an order exactly where there is no cycle ..
abbrev pub OrderWithoutCycle : Type 0
OrderWithoutCycle = (names edges : List (List ℕ)) → AreUnits names edges
    → HasNoCycle edges ↔ ((order : List Placed) × (ordered names edges ≡ Ok order))

-- .. and a reported cycle exactly where there is one
abbrev pub CycleIsReported : Type 0
CycleIsReported = (names edges : List (List ℕ)) → AreUnits names edges
    → HasCycle edges ↔ ((cycle : List ℕ) × (ordered names edges ≡ Err cycle))

-- a list of all units by their ranks and names is enough: then there is no cycle, and providers stand first
abbrev pub OrderHasNoCycle : Type 0
OrderHasNoCycle = (names edges : List (List ℕ)) (order : List Placed) → length edges ≡ length names
    → IsOrder names edges order → IsOrdered names edges order

-- where there is no cycle, the rank of a unit is the length of the longest chain of providers below it
abbrev pub RankIsLongest : Type 0
RankIsLongest = (edges : List (List ℕ)) (unit : ℕ) → AllAreUnits edges → HasNoCycle edges → unit < length edges
    → IsRank edges unit (rank_of edges unit)
