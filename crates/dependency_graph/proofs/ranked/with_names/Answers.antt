use Rattle.std.proofs.Common.{refl, ◌∙◌}
use Rattle.std.proofs.lemmas.List.{get_or_read}
use Rattle.dependency_graph.proofs.Sorting.{ranked_more}
use Rattle.dependency_graph.proofs.ranked.with_names.Goals as goal

-- one more unit
pub loop-unit-preserved : goal.loop-unit-preserved
loop-unit-preserved c =
    rw c.in_ok-push.ensures.items
    (ranked_more _ _ _ _ _ c.loop-unit.invariant
    (record {
      known = c.loop-unit-test.true;
      rank = refl;
      name = c.in_ok-name.ensures ∙ get_or_read _ _ _ c.loop-unit-test.true c.index-names-unit.is _;
    })
    refl)
