use Rattle.std.proofs.Common.{◌+◌, drop}
use Rattle.type_phrases.proofs.PartsRead.{drop_item, drop_end}
use Rattle.where_types.proofs.Names.{others_next, others_end}
use Rattle.where_types.proofs.replacing.without.Goals as goal

pub loop-other-preserved : goal.loop-other-preserved
loop-other-preserved c =
    let names = c.args.names.now in
    let i = c.loop-other.other-index in
    others_next c.args.name.now c.other-item.result names (drop i names) (drop (i + 1) names) c.loop-other.left
    c.add_other.new.left (drop_item names i c.other-item.result c.loop-other-test.true c.other-item.is)
    c.loop-other.invariant c.in_ok-add_other.ensures

pub returns : goal.returns
returns c =
    others_end c.args.name.now c.args.names.now (drop c.loop-other.other-index c.args.names.now) c.loop-other.left
    (drop_end c.args.names.now c.loop-other.other-index c.loop-other-test.false) c.loop-other.invariant
