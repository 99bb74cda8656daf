use Rattle.given_tops.proofs.Holding.{tree_done}
use Rattle.given_tops.proofs.trees.tree_fits.Goals as goal

pub returns-in-Some : goal.returns-in-Some
returns-in-Some c = tree_done c.args.limits.now c.args.own c.loop-node.held c.pop.new.self c.in-Some.fits
    c.nodes-nodes.result.now c.loop-node.node-index c.args.tree.now c.loop-node.invariant c.loop-node-test.false
    c.in-Some.ensures c.nodes-nodes.ensures.tree
