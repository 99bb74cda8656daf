-- What holds of orders and cycles as values: more steps change no rank, and each relation holds of one list at most.
use Rattle.std.specs.Prelude.{◌≡◌, ℕ, ◌<◌, ◌≤◌, List, length}
use Rattle.dependency_graph.specs.Order.{AllAreUnits, AllDiffer, Placed}
use Rattle.dependency_graph.specs.Cycle.{HasNoCycle, IsOrdered, IsNearestCycle}
use Rattle.dependency_graph.specs.Ordered.{rank_of, rank_within}

-- where there is no cycle, no rank changes by taking more steps than there are units
abbrev pub MoreStepsChangeNothing : Type 0
MoreStepsChangeNothing = (edges : List (List ℕ)) (steps unit : ℕ) → AllAreUnits edges → HasNoCycle edges
    → unit < length edges → length edges ≤ steps → rank_within edges steps unit ≡ rank_of edges unit

-- units of differing names have one order at most ..
abbrev pub OrderIsOne : Type 0
OrderIsOne = (names edges : List (List ℕ)) (a b : List Placed) → length edges ≡ length names → AllAreUnits edges
    → AllDiffer names → IsOrdered names edges a → IsOrdered names edges b → a ≡ b

-- .. and one cycle at most is reported
abbrev pub CycleIsOne : Type 0
CycleIsOne = (names edges : List (List ℕ)) (a b : List ℕ) → length edges ≡ length names → AllAreUnits edges
    → AllDiffer names → IsNearestCycle names edges a → IsNearestCycle names edges b → a ≡ b
