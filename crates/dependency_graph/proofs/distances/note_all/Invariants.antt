use Rattle.std.proofs.Common.{take}
use Rattle.std.specs.Prelude.{Contains}
use Rattle.dependency_graph.specs.Distances.{Spreads}
use Rattle.dependency_graph.proofs.distances.note_all.Given as goal

abbrev pub invariant-loop-unit : goal.invariant-loop-unit
invariant-loop-unit l =
    Spreads (Contains (take l.unit-index l.list)) l.steps l.fn.distances l.distances l.fn.next.items l.next.items
