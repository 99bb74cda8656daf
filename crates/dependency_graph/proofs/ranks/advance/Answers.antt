use Rattle.std.proofs.Common.{rules}
use Rattle.dependency_graph.proofs.Walks.{part_step, part_whole}
use Rattle.dependency_graph.proofs.ranks.advance.Goals as goal

-- a done provider adds its rank
pub loop-next-preserved : goal.loop-next-preserved
loop-next-preserved c =
    part_step _ _ _ _ _ _ _ _ c.requires.noted c.providers_of-providers.ensures c.loop-next-test.true c.in-Done.is
    c.in_ok-rank-in-Done.ensures c.loop-next.invariant

-- all providers gone through
pub returns : goal.returns
returns c = part_whole _ _ _ _ (search rules) c.loop-next.invariant
