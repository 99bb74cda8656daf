use Rattle.std.proofs.Common.{◌≡◌, length}
use Rattle.tree_heights.specs.NodeHeights.{in_turn, cons_height}
use Rattle.tree_heights.proofs.height_node.pats_height.Given as goal

-- the items that are left before what is made
abbrev pub invariant-loop-item : goal.invariant-loop-item
invariant-loop-item l =
    in_turn cons_height l.items.items l.rest ≡ in_turn cons_height l.initial.items.items l.initial.rest

abbrev pub decreases-loop-item : goal.decreases-loop-item
decreases-loop-item l = length l.items.items
