use Rattle.type_schemes.proofs.Adding.{adds_nothing, adds_node, adds_same}
use Rattle.table_schemes.proofs.Instances.{part_has, node_ready, node_read}
use Rattle.table_schemes.proofs.uses.make_node.Goals as goal

pub part_ids-requires-clause-parts : goal.part_ids-requires-clause-parts
part_ids-requires-clause-parts c i a e =
    part_has c.args.table.now c.requires.node.0 a (c.requires.node.1.parts i a e)

pub returns-in_err-parts-clause-added : goal.returns-in_err-parts-clause-added
returns-in_err-parts-clause-added c = adds_nothing c.args.table.now

pub returns-in_err-symbol-in-Some-clause-added : goal.returns-in_err-symbol-in-Some-clause-added
returns-in_err-symbol-in-Some-clause-added c = adds_nothing c.args.table.now

pub add_node-requires : goal.add_node-requires
add_node-requires c =
    let has = rw c.in-Some.is at c.in_ok-parts.ensures.has in
    node_ready c.args.table.now c.requires.node.0 c.args.node.now c.in_ok-symbol-in-Some.symbol c.in-Some.parts
    c.requires.node.1 c.in_ok-symbol-in-Some.ensures has.0 has.1

pub returns-in_err-add_node-in-Some-clause-added :
    goal.returns-in_err-add_node-in-Some-clause-added
returns-in_err-add_node-in-Some-clause-added c =
    adds_same c.args.table.now c.add_node.new.self c.in_err-add_node-in-Some.ensures.refused

pub returns-in_ok-add_node-in-Some-clause-read : goal.returns-in_ok-add_node-in-Some-clause-read
returns-in_ok-add_node-in-Some-clause-read c trees made =
    let read = rw c.in-Some.is at c.in_ok-parts.ensures.read in
    node_read c.args.table.now c.add_node.new.self c.args.base c.args.node.now trees c.in_ok-symbol-in-Some.symbol
    c.in-Some.parts c.in_ok-add_node-in-Some.field-0 c.in_ok-symbol-in-Some.ensures (read trees made)
    c.in_ok-add_node-in-Some.ensures.added c.in_ok-add_node-in-Some.ensures.id

pub returns-in_ok-add_node-in-Some-clause-added : goal.returns-in_ok-add_node-in-Some-clause-added
returns-in_ok-add_node-in-Some-clause-added c =
    adds_node c.args.table.now c.add_node.new.self _ c.in_ok-add_node-in-Some.ensures.added

pub returns-in-None-clause-added : goal.returns-in-None-clause-added
returns-in-None-clause-added c = adds_nothing c.args.table.now
