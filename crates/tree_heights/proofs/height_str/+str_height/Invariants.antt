use Rattle.std.proofs.Common.{◌≡◌, map, drop}
use Rattle.tree_heights.specs.Heights.{highest_with, highest}
use Rattle.tree_heights.specs.FullUnitHeights.{full_str_dec, full_str_bind}
use Rattle.tree_heights.proofs.height_str.+str_height.Given as goal

-- in each loop: what is made, and the items that are left
abbrev pub invariant-str_decs_height-loop-dec : goal.invariant-str_decs_height-loop-dec
invariant-str_decs_height-loop-dec l =
    highest_with l.made (map full_str_dec (drop l.dec-index l.decs)) ≡ highest (map full_str_dec l.decs)

abbrev pub invariant-str_binds_height-loop-bind : goal.invariant-str_binds_height-loop-bind
invariant-str_binds_height-loop-bind l =
    highest_with l.made (map full_str_bind (drop l.bind-index l.binds)) ≡ highest (map full_str_bind l.binds)
