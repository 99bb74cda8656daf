use Rattle.given_tops.specs.Names.{nodes_of}
use Rattle.given_tops.proofs.Walking.{last_asked, rest_asked}
use Rattle.given_tops.proofs.walk.walk.Goals as goal

pub take-requires-clause-asked : goal.take-requires-clause-asked
take-requires-clause-asked c = last_asked (nodes_of c.args.limits.now) c.args.g.now.items c.args.root c.loop.steps
    c.pop.new.self c.in-Some.step c.in-Some.ensures c.loop.invariant.steps

pub take-requires-clause-steps : goal.take-requires-clause-steps
take-requires-clause-steps c = rest_asked (nodes_of c.args.limits.now) c.args.g.now.items c.args.root c.loop.steps
    c.pop.new.self c.in-Some.step c.in-Some.ensures c.loop.invariant.steps
