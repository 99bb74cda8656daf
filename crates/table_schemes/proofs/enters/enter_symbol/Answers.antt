use Rattle.type_schemes.proofs.Adding.{adds_nothing, adds_node, adds_same}
use Rattle.table_schemes.proofs.Entering.{closed_node, closed_tree, closed_nodes, open_tree, nodes_next}
use Rattle.table_schemes.proofs.enters.enter_symbol.Goals as goal

pub returns-in_err-ids-clause-added : goal.returns-in_err-ids-clause-added
returns-in_err-ids-clause-added c = adds_nothing c.args.table.now

pub add_node-requires : goal.add_node-requires
add_node-requires c =
    closed_node c.args.table.now _ c.args.symbol c.args.parts c.in-Some.ids (rw c.in-Some.is at c.in_ok-ids.ensures)
    c.requires.counted c.requires.rising c.requires.parts

pub returns-in_err-add_node-in-Some-clause-added :
    goal.returns-in_err-add_node-in-Some-clause-added
returns-in_err-add_node-in-Some-clause-added c =
    adds_same c.args.table.now c.add_node.new.self c.in_err-add_node-in-Some.ensures.refused

pub returns-in_err-add-in-None-clause-added : goal.returns-in_err-add-in-None-clause-added
returns-in_err-add-in-None-clause-added c = adds_nothing c.args.table.now

pub returns-in_ok-add_node-in-Some-clause-tree : goal.returns-in_ok-add_node-in-Some-clause-tree
returns-in_ok-add_node-in-Some-clause-tree c =
    closed_tree c.args.table.now c.add_node.new.self c.args.nodes.now c.args.symbol c.args.parts c.in-Some.ids
    c.in_ok-add_node-in-Some.field-0 (rw c.in-Some.is at c.in_ok-ids.ensures) c.in_ok-add_node-in-Some.ensures.added
    c.in_ok-add_node-in-Some.ensures.id

pub returns-in_ok-add_node-in-Some-clause-nodes : goal.returns-in_ok-add_node-in-Some-clause-nodes
returns-in_ok-add_node-in-Some-clause-nodes c =
    closed_nodes c.args.table.now c.add_node.new.self c.args.nodes.now _ c.in_ok-add_node-in-Some.ensures.added c.requires.nodes

pub returns-in_ok-add_node-in-Some-clause-added : goal.returns-in_ok-add_node-in-Some-clause-added
returns-in_ok-add_node-in-Some-clause-added c =
    adds_node c.args.table.now c.add_node.new.self _ c.in_ok-add_node-in-Some.ensures.added

pub returns-in_ok-add-in-None-clause-tree : goal.returns-in_ok-add-in-None-clause-tree
returns-in_ok-add-in-None-clause-tree c =
    open_tree c.args.table.now c.args.nodes.now c.add.new.self c.args.symbol c.args.parts c.len-place.result
    c.in_ok-add-in-None.ensures.ok c.len-place.ensures

pub returns-in_ok-add-in-None-clause-nodes : goal.returns-in_ok-add-in-None-clause-nodes
returns-in_ok-add-in-None-clause-nodes c =
    nodes_next c.args.table.now c.args.nodes.now c.add.new.self c.args.symbol c.args.parts c.requires.nodes c.requires.parts
    c.requires.counted c.requires.rising (rw c.in-None.is at c.in_ok-ids.ensures) c.in_ok-add-in-None.ensures.ok

pub returns-in_ok-add-in-None-clause-added : goal.returns-in_ok-add-in-None-clause-added
returns-in_ok-add-in-None-clause-added c = adds_nothing c.args.table.now
