use Rattle.std.proofs.Common.{◌≡◌}
use Rattle.tree_heights.specs.NodeHeights.{curried_height}
use Rattle.tree_heights.proofs.height_node.curried_height.Given as goal

-- the arguments that are left before what is made
abbrev pub invariant-loop-left : goal.invariant-loop-left
invariant-loop-left l = curried_height l.left l.made ≡ curried_height l.initial.left l.initial.made

abbrev pub decreases-loop-left : goal.decreases-loop-left
decreases-loop-left l = l.left
