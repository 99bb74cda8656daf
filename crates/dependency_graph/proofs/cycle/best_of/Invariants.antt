use Rattle.std.proofs.Common.{take}
use Rattle.dependency_graph.specs.Distances.{IsBest}
use Rattle.dependency_graph.proofs.cycle.best_of.Given as goal

abbrev pub invariant-loop-unit : goal.invariant-loop-unit
invariant-loop-unit l = IsBest l.names l.distances (take l.unit-index l.list) l.best
