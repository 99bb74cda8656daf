use Rattle.std.proofs.Common.{arith, get_or}
use Rattle.std.proofs.lemmas.List.{take_more}
use Rattle.dependency_graph.proofs.Visits.{count_done}
use Rattle.dependency_graph.proofs.Searching.{marked_more}
use Rattle.dependency_graph.proofs.components.mark_all.Goals as goal

-- one more unit of the list is done
pub loop-unit-preserved : goal.loop-unit-preserved
loop-unit-preserved c =
    let known = c.requires.marked c.loop-unit.unit-index 0 c.loop-unit-test.true in
    let less = count_done c.loop-unit.marks (get_or c.args.list.now c.loop-unit.unit-index 0)
    (omega (arith, known, c.loop-unit.invariant.marked.marked)) in
    record {
      marked =
          rw (take_more c.args.list.now c.loop-unit.unit-index 0 c.loop-unit-test.true)
          (marked_more _ _ _ _ _ _ _ c.loop-unit.invariant.marked known c.requires.flagged);
      fewer = omega (arith, less);
    }
