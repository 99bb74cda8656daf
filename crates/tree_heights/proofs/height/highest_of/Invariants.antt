use Rattle.std.proofs.Common.{◌≡◌, map, drop}
use Rattle.tree_heights.specs.Heights.{highest_with, highest}
use Rattle.tree_heights.proofs.height.highest_of.Given as goal

-- what is made, and the items that are left
abbrev pub invariant-loop-item : goal.invariant-loop-item
invariant-loop-item g l =
    highest_with l.made (map g.T.High.height (drop l.item-index l.items)) ≡ highest (map g.T.High.height l.items)
