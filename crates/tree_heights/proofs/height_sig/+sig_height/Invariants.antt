use Rattle.std.proofs.Common.{◌≡◌, map, drop}
use Rattle.tree_heights.specs.Heights.{highest_with, highest}
use Rattle.tree_heights.specs.FullSigHeights.{full_spec, full_sig_bind}
use Rattle.tree_heights.proofs.height_sig.+sig_height.Given as goal

-- in each loop: what is made, and the items that are left
abbrev pub invariant-specs_height-loop-spec : goal.invariant-specs_height-loop-spec
invariant-specs_height-loop-spec l =
    highest_with l.made (map full_spec (drop l.spec-index l.specs)) ≡ highest (map full_spec l.specs)

abbrev pub invariant-sig_binds_height-loop-bind : goal.invariant-sig_binds_height-loop-bind
invariant-sig_binds_height-loop-bind l =
    highest_with l.made (map full_sig_bind (drop l.bind-index l.binds)) ≡ highest (map full_sig_bind l.binds)
