use Rattle.std.proofs.Common.{take}
use Rattle.dependency_graph.specs.Distances.{AddsUser}
use Rattle.dependency_graph.proofs.distances.add_to_all.Given as goal

abbrev pub invariant-loop-unit : goal.invariant-loop-unit
invariant-loop-unit l = AddsUser l.fn.users l.users (take l.unit-index l.list) l.user
