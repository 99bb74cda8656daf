use Rattle.std.proofs.Common.{drop, ◌+◌}
use Rattle.type_nodes.specs.Tables.{state}
use Rattle.structure_matching.proofs.Listing.{drop_item}
use Rattle.structure_matching.proofs.Covering.{of_one}
use Rattle.structure_matching.proofs.values.are_of.Goals as goal

pub loop-node-preserved : goal.loop-node-preserved
loop-node-preserved c =
    let nodes = c.args.nodes.now in
    let i = c.loop-node.node-index in
    of_one (state c.args.t.now) nodes (drop i nodes) (drop (i + 1) nodes) c.node-item.result c.is_node_of.result
    c.loop-node.invariant (drop_item nodes i c.node-item.result c.loop-node-test.true c.node-item.is)
    c.is_node_of.ensures c.if-not-is_node_of.false
