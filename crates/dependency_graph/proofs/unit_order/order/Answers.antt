use Rattle.std.proofs.Common.{Ok, Err}
use Rattle.dependency_graph.specs.declared.unit_order.OrderFault.TheVariants.{Cycle}
use Rattle.dependency_graph.proofs.CycleValue.{gives_order}
use Rattle.dependency_graph.proofs.Sorting.{ordered}
use Rattle.dependency_graph.proofs.unit_order.order.Goals as goal

-- an order by the ranks
pub returns-in_ok-in_order-in-Some-clause-relations : goal.returns-in_ok-in_order-in-Some-clause-relations
returns-in_ok-in_order-in-Some-clause-relations c =
    let placed = rw c.as_slice-in-Some.ensures at c.in_ok-in_order-in-Some.ensures in
    let found = rw (c.in-Some.is, c.as_slice.ensures) at c.in_ok-ranks.ensures in
    ordered _ _ c.in-Some.ranks _ c.requires.lists found placed

-- .. which is the only one
pub returns-in_ok-in_order-in-Some-clause-gives : goal.returns-in_ok-in_order-in-Some-clause-gives
returns-in_ok-in_order-in-Some-clause-gives c =
    let placed = rw c.as_slice-in-Some.ensures at c.in_ok-in_order-in-Some.ensures in
    let found = rw (c.in-Some.is, c.as_slice.ensures) at c.in_ok-ranks.ensures in
    gives_order c.args.names.now c.args.edges.now (Ok c.in_ok-in_order-in-Some.field-0) c.requires.lists
    c.requires.units c.requires.apart (ordered _ _ c.in-Some.ranks _ c.requires.lists found placed)

-- the reported cycle is the only one
pub returns-in_ok-nearest_cycle-in-None-clause-gives : goal.returns-in_ok-nearest_cycle-in-None-clause-gives
returns-in_ok-nearest_cycle-in-None-clause-gives c =
    let nearest = rw (c.as_slice-in-None.ensures, c.as_slice-in-None-2.ensures) at
    c.in_ok-nearest_cycle-in-None.ensures in
    gives_order c.args.names.now c.args.edges.now (Err (Cycle c.in_ok-nearest_cycle-in-None.field-0)) c.requires.lists
    c.requires.units c.requires.apart nearest
