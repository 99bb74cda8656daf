use Rattle.std.proofs.Common.{sym}
use Rattle.sml_types.proofs.Looking.{looks_arrow, looks_record, looks_name}
use Rattle.sml_types.proofs.look.look_node.Goals as goal

pub returns-in-Some-Some : goal.returns-in-Some-Some
returns-in-Some-Some c = looks_arrow c.args.table.now c.args.at c.node-node.result.now c.in-Some-Some.from.now
    c.in-Some-Some.to.now c.is_kept.ensures.kept c.node-node.ensures c.in-Arrow.is (sym c.in-Some-Some.ensures.item)
    (sym c.in-Some-Some.ensures'.item)

pub returns-in_ok-fields_of-in-Record : goal.returns-in_ok-fields_of-in-Record
returns-in_ok-fields_of-in-Record c = looks_record c.args.table.now c.args.at c.node-node.result.now _ _ c.is_kept.ensures.kept
    c.node-node.ensures c.in-Record.is c.in_ok-fields_of-in-Record.ensures.labels c.in_ok-fields_of-in-Record.ensures.parts

pub returns-in_ok-copied-in-Name : goal.returns-in_ok-copied-in-Name
returns-in_ok-copied-in-Name c = looks_name c.args.table.now c.args.at c.node-node.result.now _ _ _ c.is_kept.ensures.kept
    c.node-node.ensures c.in-Name.is c.in_ok-copy-in-Name.ensures c.in_ok-copied-in-Name.ensures
