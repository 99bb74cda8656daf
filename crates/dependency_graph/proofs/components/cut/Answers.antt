use Rattle.std.proofs.Common.{arith, ◌<◌}
use Rattle.dependency_graph.proofs.Searching.{cut_more, cut_low}
use Rattle.dependency_graph.proofs.components.cut.Goals as goal

-- one more start is taken away
pub loop-start-preserved : goal.loop-start-preserved
loop-start-preserved c =
    let above : c.args.back < c.in-Some.start = omega arith in
    cut_more c.args.starts.now.items c.loop-start.starts.items c.pop.new.self.items c.in-Some.start c.args.back
    c.loop-start.invariant c.in-Some.ensures.items above

-- the last start is the highest
pub returns-then-start-back-clause-low : goal.returns-then-start-back-clause-low
returns-then-start-back-clause-low c =
    rw c.in_ok-push.ensures.items
    (cut_low c.args.starts.now.items c.loop-start.starts.items c.pop.new.self.items c.in-Some.start c.args.back
    c.loop-start.invariant c.in-Some.ensures.items c.if-start-back.true)
