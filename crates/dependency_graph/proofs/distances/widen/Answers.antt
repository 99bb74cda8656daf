use Rattle.std.proofs.lemmas.List.{take_more}
use Rattle.dependency_graph.proofs.Spreading.{widen_more}
use Rattle.dependency_graph.proofs.distances.widen.Goals as goal

-- one more unit of which the users are met
pub loop-unit-preserved : goal.loop-unit-preserved
loop-unit-preserved c =
    let then = rw c.providers_of.ensures at c.in_ok-note_all.ensures in
    rw (take_more c.args.now.now c.loop-unit.unit-index 0 c.loop-unit-test.true)
    (widen_more c.args.users.now _ _ _ _ _ _ _ _ _ c.loop-unit.invariant then)
