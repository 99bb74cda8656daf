use Rattle.dependency_graph.proofs.Nearest.{nearest_is}
use Rattle.dependency_graph.proofs.cycle.next_unit.Goals as goal

-- the first of the providers
pub returns : goal.returns
returns c =
    let best = rw c.providers_of.ensures at c.in-Some.ensures in
    nearest_is _ _ _ _ _ _ c.requires.distances best
