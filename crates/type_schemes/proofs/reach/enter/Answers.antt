use Rattle.type_schemes.specs.declared.reach.Step.TheVariants as step
use Rattle.type_schemes.proofs.Reaching.{taken_since}
use Rattle.type_schemes.proofs.reach.enter.Goals as goal

pub returns : goal.returns
returns c = taken_since c.args.table.now (step.Enter c.args.id) c.args.reached.now c.head.new.self c.enter_head.new.reached
    c.args.steps.now c.enter_head.new.steps c.in_ok-head.ensures.found c.in_ok-enter_head.ensures
