use Rattle.std.proofs.lemmas.List.{take_more}
use Rattle.dependency_graph.proofs.Spreading.{adds_one}
use Rattle.dependency_graph.proofs.distances.add_to_all.Goals as goal

-- one more list has the user
pub loop-unit-preserved : goal.loop-unit-preserved
loop-unit-preserved c =
    rw (take_more c.args.list.now c.loop-unit.unit-index 0 c.loop-unit-test.true)
    (adds_one _ _ _ _ _ _ c.loop-unit.invariant (c.requires _ 0 c.loop-unit-test.true) c.in_ok-add_user.ensures)
