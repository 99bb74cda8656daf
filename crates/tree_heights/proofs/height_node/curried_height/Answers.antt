use Rattle.tree_heights.proofs.HeightLists.{curried_step}
use Rattle.tree_heights.proofs.height_node.curried_height.Goals as goal

pub loop-left-preserved : goal.loop-left-preserved
loop-left-preserved c =
    curried_step c.loop-left.left c.loop-left.made c.max.result c.in_ok-made.made _ c.loop-left-test.true c.max.ensures
    c.in_ok-made.ensures c.loop-left.invariant
