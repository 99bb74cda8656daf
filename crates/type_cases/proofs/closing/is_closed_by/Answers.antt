use Rattle.type_cases.proofs.Closed.{tree_binds}
use Rattle.type_cases.proofs.closing.is_closed_by.Goals as goal

pub returns : goal.returns
returns c = λ _.
    tree_binds c.args.count c.loop-node.node-index c.nodes-nodes.result.now c.args.tree.now
    c.nodes-nodes.ensures.nodes c.loop-node-test.false c.loop-node.invariant c.nodes-nodes.ensures.tree
