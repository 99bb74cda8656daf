use Rattle.dependency_graph.proofs.Sorting.{placing}
use Rattle.dependency_graph.proofs.unit_order.in_order.Goals as goal

-- the sorted units are placed
pub returns : goal.returns
returns c =
    let is = rw c.as_slice.ensures at c.in_ok-all.ensures in
    rw (c.assembled.ensures, c.in_ok-units.ensures, c.as_slice-2.ensures.value) (placing _ _ _ is)
