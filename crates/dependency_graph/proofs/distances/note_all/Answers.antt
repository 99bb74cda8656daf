use Rattle.std.proofs.lemmas.List.{take_more}
use Rattle.dependency_graph.proofs.Spreading.{spread_more}
use Rattle.dependency_graph.proofs.distances.note_all.Goals as goal

-- one more unit of the list
pub loop-unit-preserved : goal.loop-unit-preserved
loop-unit-preserved c =
    rw (take_more c.args.list.now c.loop-unit.unit-index 0 c.loop-unit-test.true)
    (spread_more _ _ _ _ _ _ _ _ _ c.loop-unit.invariant c.in_ok-note.ensures)
