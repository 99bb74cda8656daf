use Rattle.std.proofs.Common.{◌≡◌, map, drop}
use Rattle.tree_heights.specs.Heights.{highest_with, highest}
use Rattle.tree_heights.specs.FullSigHeights.{desc_height}
use Rattle.tree_heights.proofs.height_sig.singles_height.Given as goal

-- what is made, and the types that are left
abbrev pub invariant-loop-desc : goal.invariant-loop-desc
invariant-loop-desc l =
    highest_with l.made (map desc_height (drop l.desc-index l.descs)) ≡ highest (map desc_height l.descs)
