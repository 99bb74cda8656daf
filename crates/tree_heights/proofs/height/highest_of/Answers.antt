use Rattle.tree_heights.proofs.Highest.{higher_step}
use Rattle.tree_heights.proofs.height.highest_of.Goals as goal

pub loop-item-preserved : goal.loop-item-preserved
loop-item-preserved g c =
    higher_step g.T.High.height c.args.items.now c.loop-item.item-index c.item-item.result c.loop-item.made
    c.in_ok-height.field-0 c.max-made.result _ c.loop-item-test.true c.item-item.is c.in_ok-height.ensures
    c.max-made.ensures c.loop-item.invariant
