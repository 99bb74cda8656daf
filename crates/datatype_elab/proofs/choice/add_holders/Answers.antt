use Rattle.std.proofs.Common.{◌+◌, drop, get_or, None}
use Rattle.type_phrases.proofs.PartsRead.{drop_item}
use Rattle.datatype_elab.proofs.Choosing.{holders_more, index_want}
use Rattle.datatype_elab.proofs.choice.add_holders.Goals as goal

pub loop-want-preserved : goal.loop-want-preserved
loop-want-preserved c =
    let wants = c.args.wants.now in
    let i = c.loop-want.want-index in
    holders_more c.args.holders.now c.loop-want.holders c.add_wanted.new.holders wants (drop i wants) (drop (i + 1) wants)
    (get_or wants i None) c.args.at c.loop-want.invariant
    (drop_item wants i (get_or wants i None) c.loop-want-test.true (index_want wants i c.loop-want-test.true))
    c.in_ok-add_wanted.ensures
