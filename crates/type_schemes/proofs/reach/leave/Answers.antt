use Rattle.type_schemes.proofs.Reaching.{node_has, node_passed}
use Rattle.type_schemes.proofs.reach.leave.Goals as goal

pub has_all-requires-clause-has : goal.has_all-requires-clause-has
has_all-requires-clause-has c = node_has c.args.table.now c.args.at c.node.result.now c.is_kept.ensures.kept.made c.node.ensures

pub add_node-requires-clause-passed : goal.add_node-requires-clause-passed
add_node-requires-clause-passed c = node_passed c.args.table.now c.args.reached.now c.args.at c.node.result.now
    c.is_kept.ensures.kept c.node.ensures (c.has_all.ensures c.if-has_all.true)
