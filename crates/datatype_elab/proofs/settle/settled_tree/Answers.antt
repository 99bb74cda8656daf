use Rattle.std.proofs.Common.{◌∙◌}
use Rattle.datatype_elab.proofs.Settling.{tree_settled, nodes_settled}
use Rattle.datatype_elab.proofs.settle.settled_tree.Goals as goal

pub from_nodes-requires : goal.from_nodes-requires
from_nodes-requires c =
    nodes_settled c.args.new.now.home c.args.new.now.first c.args.choice.now c.nodes.result.now c.in_ok-nodes.nodes
    c.in_ok-nodes.ensures c.nodes.ensures.nodes

pub returns : goal.returns
returns c =
    c.from_nodes.ensures
    ∙ tree_settled c.args.new.now.home c.args.new.now.first c.args.choice.now c.nodes.result.now c.in_ok-nodes.nodes
    c.args.tree.now c.in_ok-nodes.ensures c.nodes.ensures.tree
