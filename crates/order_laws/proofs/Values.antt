-- The value of order and the relations agree.
use Rattle.std.proofs.Common.{◌≡◌, ◌∙◌, sym, ap, refl, subst, ℕ, List, [], ◌∷◌, Option, Some, None, Ok, Err}
use Rattle.dependency_graph.specs.Order.{Placed}
use Rattle.dependency_graph.specs.Cycle.{HasCycle, HasNoCycle, IsNearestCycle, IsOrdered}
use Rattle.dependency_graph.specs.Ordered.{build_order, nearest_cycle, ordered, unless_cycle}
use Rattle.dependency_graph.proofs.CycleValue.{gives_order}
use Rattle.dependency_graph.specs.declared.unit_order.OrderFault.TheVariants.{Cycle}
use Rattle.order_laws.proofs.Cycles.{none_is_none, value_is_cycle}
use Rattle.order_laws.proofs.Orders.{some_order}
use Rattle.order_laws.specs.Laws.{AreUnits, CycleIsReported, CycleIsTheValue, OrderIsTheValue, OrderWithoutCycle}

-- what the relations say is the value
order_gives : (names edges : List (List ℕ)) (order : List Placed) → AreUnits names edges → IsOrdered names edges order
    → ordered names edges ≡ Ok order
order_gives names edges order are is = gives_order names edges (Ok order) are.lists are.known are.apart is

cycle_gives : (names edges : List (List ℕ)) (cycle : List ℕ) → AreUnits names edges
    → IsNearestCycle names edges cycle → ordered names edges ≡ Err cycle
cycle_gives names edges cycle are is = gives_order names edges (Err (Cycle cycle)) are.lists are.known are.apart is

-- the one order that there is without a cycle
the_order : (names edges : List (List ℕ)) → AreUnits names edges → HasNoCycle edges
    → (order : List Placed) × IsOrdered names edges order × (ordered names edges ≡ Ok order)
the_order names edges are none =
    let some = some_order names edges are none in
    (some.0, some.1, order_gives names edges some.0 are some.1)

same_order : (names edges : List (List ℕ)) (order : List Placed) → AreUnits names edges → HasNoCycle edges
    → ordered names edges ≡ Ok order → IsOrdered names edges order
same_order names edges order are none is =
    let found = the_order names edges are none in
    let same : ◌≡◌ {A = List Placed} found.0 order =
    let both : Ok found.0 ≡ Ok order = sym found.2 ∙ is in cc in
    subst (IsOrdered names edges) same found.1

order_by : (names edges : List (List ℕ)) (order : List Placed) (o : Option (List ℕ)) → AreUnits names edges
    → nearest_cycle names edges ≡ o → unless_cycle o (build_order names edges) ≡ Ok order
    → ordered names edges ≡ Ok order → IsOrdered names edges order
order_by names edges order (Some cycle) are none is whole = cc
order_by names edges order None are none is whole =
    same_order names edges order are (none_is_none names edges are none) whole

order_of : (names edges : List (List ℕ)) (order : List Placed) → AreUnits names edges
    → ordered names edges ≡ Ok order → IsOrdered names edges order
order_of names edges order are is = order_by names edges order (nearest_cycle names edges) are refl is is

cycle_by : (names edges : List (List ℕ)) (cycle : List ℕ) (o : Option (List ℕ)) → AreUnits names edges
    → nearest_cycle names edges ≡ o → unless_cycle o (build_order names edges) ≡ Err cycle
    → IsNearestCycle names edges cycle
cycle_by names edges cycle None are some is = cc
cycle_by names edges cycle (Some other) are some is =
    let same : other ≡ cycle = cc in value_is_cycle names edges cycle are (some ∙ ap Some same)

cycle_of : (names edges : List (List ℕ)) (cycle : List ℕ) → AreUnits names edges
    → ordered names edges ≡ Err cycle → IsNearestCycle names edges cycle
cycle_of names edges cycle are is = cycle_by names edges cycle (nearest_cycle names edges) are refl is

-- ---- the laws

pub order_is_value : OrderIsTheValue
order_is_value names edges order are = (
  λ is. order_of names edges order are is,
  λ is. order_gives names edges order are is,
)

pub cycle_is_value : CycleIsTheValue
cycle_is_value names edges cycle are = (
  λ is. cycle_of names edges cycle are is,
  λ is. cycle_gives names edges cycle are is,
)

pub order_without_cycle : OrderWithoutCycle
order_without_cycle names edges are = (
  λ none. let found = the_order names edges are none in (found.0, found.2),
  λ some. (order_of names edges some.0 are some.1).no_cycle,
)

reported_by : (names edges : List (List ℕ)) (o : Option (List ℕ)) → AreUnits names edges → HasCycle edges
    → nearest_cycle names edges ≡ o → (cycle : List ℕ) × (ordered names edges ≡ Err cycle)
reported_by names edges None are has is = absurd (none_is_none names edges are is has.0 has.1)
reported_by names edges (Some cycle) are has is =
    (cycle, ap (λ o. unless_cycle o (build_order names edges)) is)

has_cycle : (names edges : List (List ℕ)) (cycle : List ℕ) → IsNearestCycle names edges cycle → HasCycle edges
has_cycle names edges [] is = absurd is
has_cycle names edges (unit ∷ rest) is = (unit, is.0.on)

pub cycle_is_reported : CycleIsReported
cycle_is_reported names edges are = (
  λ has. reported_by names edges (nearest_cycle names edges) are has refl,
  λ some. has_cycle names edges some.0 (cycle_of names edges some.0 are some.1),
)
