use Rattle.bin_store.proofs.Parts.{ends_at, no_slash_more, no_slash_all}
use Rattle.bin_store.proofs.paths.first_component.Goals as goal

pub returns-then-name-at-eq47-clause-parts : goal.returns-then-name-at-eq47-clause-parts
returns-then-name-at-eq47-clause-parts c = ends_at c.args.name.now c.loop-at.at c.loop-at-test.true
    c.if-name-at-eq47.true c.loop-at.invariant

pub loop-at-preserved : goal.loop-at-preserved
loop-at-preserved c = no_slash_more c.args.name.now c.loop-at.at c.loop-at-test.true c.if-name-at-eq47.false
    c.loop-at.invariant

pub returns-clause-parts : goal.returns-clause-parts
returns-clause-parts c = no_slash_all c.args.name.now c.loop-at.at c.loop-at-test.false c.loop-at.invariant
