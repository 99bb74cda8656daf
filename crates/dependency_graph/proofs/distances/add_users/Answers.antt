use Rattle.std.proofs.Common.{◌∙◌}
use Rattle.std.proofs.lemmas.List.{get_or_read}
use Rattle.dependency_graph.proofs.Spreading.{users_more}
use Rattle.dependency_graph.proofs.distances.add_users.Goals as goal

-- one more unit is in the lists of its providers
pub loop-user-preserved : goal.loop-user-preserved
loop-user-preserved c =
    users_more _ _ _ _ _ c.loop-user.invariant
    (c.as_slice.ensures ∙ get_or_read _ _ _ c.loop-user-test.true c.index-edges-user.is _) c.in_ok-add_to_all.ensures
