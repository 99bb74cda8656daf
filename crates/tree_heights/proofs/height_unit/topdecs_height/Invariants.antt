use Rattle.std.proofs.Common.{◌≡◌, map, drop}
use Rattle.tree_heights.specs.Heights.{highest_with, highest}
use Rattle.tree_heights.specs.FullUnitHeights.{full_topdec}
use Rattle.tree_heights.proofs.height_unit.topdecs_height.Given as goal

-- what is made, and the items that are left
abbrev pub invariant-loop-topdec : goal.invariant-loop-topdec
invariant-loop-topdec l =
    highest_with l.made (map full_topdec (drop l.topdec-index l.topdecs)) ≡ highest (map full_topdec l.topdecs)
