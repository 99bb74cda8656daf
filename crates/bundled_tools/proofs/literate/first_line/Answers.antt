use Rattle.bundled_tools.proofs.Lines.{ends_at, no_feed_more, no_feed_all}
use Rattle.bundled_tools.proofs.literate.first_line.Goals as goal

pub returns-then-text-at-eq10-clause-parts : goal.returns-then-text-at-eq10-clause-parts
returns-then-text-at-eq10-clause-parts c = ends_at c.args.text.now c.loop-at.at c.loop-at-test.true
    c.if-text-at-eq10.true c.loop-at.invariant

pub loop-at-preserved : goal.loop-at-preserved
loop-at-preserved c = no_feed_more c.args.text.now c.loop-at.at c.loop-at-test.true c.if-text-at-eq10.false
    c.loop-at.invariant

pub returns-clause-parts : goal.returns-clause-parts
returns-clause-parts c = no_feed_all c.args.text.now c.loop-at.at c.loop-at-test.false c.loop-at.invariant
