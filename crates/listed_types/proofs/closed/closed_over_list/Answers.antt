use Rattle.std.proofs.Common.{◌∙◌}
use Rattle.type_nodes.specs.Tables.{whole}
use Rattle.listed_types.proofs.Closing.{list_root, list_are}
use Rattle.listed_types.proofs.closed.closed_over_list.Goals as goal

pub from_nodes-requires : goal.from_nodes-requires
from_nodes-requires c = list_are c.args.first c.args.count c.nodes.result.now c.in_ok-nodes.nodes c.in_ok-nodes.ensures
    c.nodes.ensures.nodes

pub returns-clause-tree : goal.returns-clause-tree
returns-clause-tree c =
    c.from_nodes.ensures
    ∙ list_root c.args.first c.args.count c.nodes.result.now c.in_ok-nodes.nodes c.body.result.now
    (whole c.args.t.now c.args.ty) c.in_ok-nodes.ensures c.nodes.ensures.tree
    (c.body.ensures ∙ c.in_ok-open.ensures.body)
