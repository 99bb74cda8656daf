use Rattle.dependency_graph.proofs.Visits.{ranks_found}
use Rattle.dependency_graph.proofs.ranks.visit_all.Goals as goal

-- each unit was met, and none is open
pub returns : goal.returns
returns c =
    ranks_found c.args.edges.now c.loop-unit.marks c.loop-unit.ranks c.loop-unit.unit c.loop-unit.invariant.noted
    c.loop-unit.invariant.none c.loop-unit.invariant.met c.loop-unit-test.false
