use Rattle.std.proofs.Common.{◌≡◌, drop}
use Rattle.tree_heights.specs.FullSigHeights.{where_height}
use Rattle.tree_heights.proofs.height_sig.where_height.Given as goal

-- what is made, and the types that are left
abbrev pub invariant-loop-each : goal.invariant-loop-each
invariant-loop-each l = where_height l.made (drop l.each-index l.wheres) ≡ where_height l.initial.made l.wheres
