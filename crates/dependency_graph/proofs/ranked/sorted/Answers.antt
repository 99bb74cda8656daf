use Rattle.dependency_graph.proofs.Sorting.{ranked_sorted}
use Rattle.dependency_graph.proofs.ranked.sorted.Goals as goal

-- a sort moves the units
pub returns : goal.returns
returns c =
    ranked_sorted _ _ _ _ c.in_ok-all.ensures c.in_ok-sort.ensures.permutation c.in_ok-sort.ensures.sorted
