use Rattle.std.proofs.Common.{sym, arith}
use Rattle.sml_types.proofs.Sides.{sides_some, sides_missing, sides_record, sides_name}
use Rattle.sml_types.proofs.made.sides_at.Goals as goal

pub returns-in-Some-get : goal.returns-in-Some-get
returns-in-Some-get c = sides_some c.args.table.now c.args.at c.node-node.result.now c.in-Some.from.now c.in-Some-get.to.now
    c.is_kept.ensures.kept c.node-node.ensures c.in-Arrow.is (sym c.in-Some.ensures.item) (sym c.in-Some-get.ensures.item)

pub returns-in-None-get : goal.returns-in-None-get
returns-in-None-get c = sides_missing c.args.table.now c.args.at 1 c.node-node.result.now c.is_kept.ensures.kept
    c.node-node.ensures c.in-Arrow.is (omega arith) c.in-None-get.ensures.item

pub returns-in-None : goal.returns-in-None
returns-in-None c = sides_missing c.args.table.now c.args.at 0 c.node-node.result.now c.is_kept.ensures.kept
    c.node-node.ensures c.in-Arrow.is (omega arith) c.in-None.ensures.item

pub returns-in-Record : goal.returns-in-Record
returns-in-Record c = sides_record c.args.table.now c.args.at c.node-node.result.now _ c.is_kept.ensures.kept
    c.node-node.ensures c.in-Record.is

pub returns-in-Name : goal.returns-in-Name
returns-in-Name c = sides_name c.args.table.now c.args.at c.node-node.result.now _ c.is_kept.ensures.kept
    c.node-node.ensures c.in-Name.is
