use Rattle.std.proofs.Common.{take}
use Rattle.dependency_graph.specs.Distances.{Spreads, IsUserOf}
use Rattle.dependency_graph.proofs.distances.widen.Given as goal

abbrev pub invariant-loop-unit : goal.invariant-loop-unit
invariant-loop-unit l =
    Spreads (IsUserOf l.users (take l.unit-index l.now)) l.steps l.fn.distances l.distances l.fn.next.items l.next.items
