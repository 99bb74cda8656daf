use Rattle.environment_ages.proofs.Holding.{tree_done}
use Rattle.environment_ages.proofs.trees.tree_holds.Goals as goal

pub returns-in-Some : goal.returns-in-Some
returns-in-Some c = tree_done c.args.limits c.loop-node.held c.pop.new.self c.in-Some.holds c.nodes-nodes.result.now
    c.loop-node.node-index c.args.tree.now c.loop-node.invariant c.loop-node-test.false c.in-Some.ensures
    c.nodes-nodes.ensures.tree
