use Rattle.environment_ages.proofs.Walking.{last_asked, rest_asked}
use Rattle.environment_ages.proofs.walk.walk.Goals as goal

pub take-requires-clause-asked : goal.take-requires-clause-asked
take-requires-clause-asked c = last_asked c.args.count c.args.g.now.items c.args.root c.loop.steps c.pop.new.self
    c.in-Some.step c.in-Some.ensures c.loop.invariant.steps

pub take-requires-clause-steps : goal.take-requires-clause-steps
take-requires-clause-steps c = rest_asked c.args.count c.args.g.now.items c.args.root c.loop.steps c.pop.new.self
    c.in-Some.step c.in-Some.ensures c.loop.invariant.steps
