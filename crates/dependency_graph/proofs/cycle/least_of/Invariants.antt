use Rattle.dependency_graph.specs.OnCycles.{IsLeastFlag}
use Rattle.dependency_graph.proofs.cycle.least_of.Given as goal

abbrev pub invariant-loop-unit : goal.invariant-loop-unit
invariant-loop-unit l = IsLeastFlag l.names l.flags l.unit l.least
