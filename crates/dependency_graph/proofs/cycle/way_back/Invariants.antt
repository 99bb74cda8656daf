use Rattle.std.proofs.Common.{unwrap_or}
use Rattle.dependency_graph.specs.Distances.{IsGoing, distance_of}
use Rattle.dependency_graph.proofs.cycle.way_back.Given as goal

abbrev pub invariant-way : goal.invariant-way
invariant-way l = IsGoing l.names l.edges l.goal l.cycle.items l.next

abbrev pub decreases-way : goal.decreases-way
decreases-way l = unwrap_or (distance_of l.distances l.next) 0
