use Rattle.std.proofs.Common.{◌+◌, length}
use Rattle.std.specs.Prelude.{count_by, is_none}
use Rattle.dependency_graph.specs.Distances.{IsLevel}
use Rattle.dependency_graph.proofs.distances.spread_from.Given as goal

abbrev pub invariant-levels : goal.invariant-levels
invariant-levels l = IsLevel l.edges l.goal l.steps l.distances l.now.items

abbrev pub decreases-levels : goal.decreases-levels
decreases-levels l = count_by is_none l.distances + length l.now.items
