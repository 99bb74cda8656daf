use Rattle.std.proofs.Common.{◌≡◌, map, drop}
use Rattle.tree_heights.specs.Heights.{highest_with, highest}
use Rattle.tree_heights.specs.FullUnitHeights.{full_funsig}
use Rattle.tree_heights.proofs.height_unit.funsigs_height.Given as goal

-- what is made, and the items that are left
abbrev pub invariant-loop-bind : goal.invariant-loop-bind
invariant-loop-bind l =
    highest_with l.made (map full_funsig (drop l.bind-index l.binds)) ≡ highest (map full_funsig l.binds)
