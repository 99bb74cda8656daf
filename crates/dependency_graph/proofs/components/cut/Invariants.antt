use Rattle.std.proofs.Common.{length}
use Rattle.std.specs.Prelude.{reverse}
use Rattle.dependency_graph.specs.Components.{AreCut}
use Rattle.dependency_graph.proofs.components.cut.Given as goal

abbrev pub invariant-loop-start : goal.invariant-loop-start
invariant-loop-start l = AreCut (reverse l.fn.starts.items) (reverse l.starts.items) l.back

abbrev pub decreases-loop-start : goal.decreases-loop-start
decreases-loop-start l = length l.starts.items
