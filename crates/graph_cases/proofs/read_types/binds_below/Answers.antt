use Rattle.std.proofs.Common.{rules}
use Rattle.graph_cases.specs.Below.{IsNodeBelow}
use Rattle.graph_cases.proofs.Binding.{below_next, root_below}
use Rattle.graph_cases.proofs.read_types.binds_below.Goals as goal

pub loop-node-preserved : goal.loop-node-preserved
loop-node-preserved c =
    let here : IsNodeBelow c.args.count c.node-item.result = search rules in
    below_next c.args.count c.loop-node.node-index c.nodes-nodes.result.now c.node-item.result c.loop-node-test.true
    c.node-item.is here c.loop-node.invariant

pub returns : goal.returns
returns c = λ t. root_below c.args.count c.loop-node.node-index c.nodes-nodes.result.now c.args.tree.now
    c.nodes-nodes.ensures.nodes c.nodes-nodes.ensures.tree c.loop-node-test.false c.loop-node.invariant
