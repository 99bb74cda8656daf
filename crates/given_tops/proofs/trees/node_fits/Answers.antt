use Rattle.type_walks.proofs.Imaging.{if_ok}
use Rattle.semantic_objects.specs.Nodes.{nowhere}
use Rattle.given_tops.specs.TypeSteps.{fits}
use Rattle.given_tops.proofs.Holding.{made_fits, made_not}
use Rattle.given_tops.proofs.trees.node_fits.Goals as goal

pub returns-then-may_stand : goal.returns-then-may_stand
returns-then-may_stand c = if_ok c.parts_fit.result c.parts_fit.ensures
    (λ b h. made_fits c.args.limits.now c.args.own c.args.held.now c.args.node.now c.in-Made.symbol c.in-Made.places
    c.may_stand.result b c.in-Made.is c.may_stand.ensures c.if-may_stand.true
    (h (fits c.args.limits.now c.args.own nowhere)))

pub returns-else-may_stand : goal.returns-else-may_stand
returns-else-may_stand c =
    made_not c.args.limits.now c.args.own c.args.held.now c.args.node.now c.in-Made.symbol c.in-Made.places
    c.may_stand.result c.in-Made.is c.may_stand.ensures c.if-may_stand.false
