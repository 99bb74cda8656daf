use Rattle.std.proofs.lemmas.List.{take_more, take_all}
use Rattle.dependency_graph.proofs.cycle.best_of.Goals as goal

-- one more unit
pub loop-unit-preserved : goal.loop-unit-preserved
loop-unit-preserved c =
    rw (take_more c.args.list.now c.loop-unit.unit-index 0 c.loop-unit-test.true)
    (c.better-best.ensures _ c.loop-unit.invariant)

-- all units
pub returns : goal.returns
returns c = rw (take_all c.loop-unit.unit-index c.args.list.now c.loop-unit-test.false) at c.loop-unit.invariant
