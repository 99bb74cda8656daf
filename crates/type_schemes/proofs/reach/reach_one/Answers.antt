use Rattle.std.proofs.Common.{subst}
use Rattle.type_schemes.specs.Reaching.{StepsHave}
use Rattle.type_schemes.proofs.Reaching.{have_front, less_on, found_on}
use Rattle.type_schemes.proofs.reach.reach_one.Goals as goal

pub take-requires-clause-has : goal.take-requires-clause-has
take-requires-clause-has c = (have_front c.args.table.now c.pop.new.self c.in-Some.step
    (subst (StepsHave c.args.table.now) c.in-Some.ensures c.loop-step.invariant.have)).1

pub loop-step-smaller : goal.loop-step-smaller
loop-step-smaller c = less_on c.args.table.now c.in-Some.step c.loop-step.reached c.take.new.reached c.loop-step.steps
    c.pop.new.self c.take.new.steps c.in_ok-take.ensures c.in-Some.ensures

pub loop-step-preserved : goal.loop-step-preserved
loop-step-preserved c =
    let taken = c.in_ok-take.ensures in
    record {
      reached = taken.reached;
      found = λ kept. found_on kept c.args.table.now c.in-Some.step c.loop-step.reached c.take.new.reached c.loop-step.steps
          c.pop.new.self c.take.new.steps _ taken c.in-Some.ensures (c.loop-step.invariant.found kept);
      have = taken.have (have_front c.args.table.now c.pop.new.self c.in-Some.step
          (subst (StepsHave c.args.table.now) c.in-Some.ensures c.loop-step.invariant.have)).0;
    }
