use Rattle.std.proofs.Common.{◌≡◌, drop}
use Rattle.tree_heights.specs.Heights.{highest_with, highest}
use Rattle.tree_heights.proofs.height_head.highest_arg.Given as goal

-- what is made, and the heights that are left
abbrev pub invariant-loop-arg : goal.invariant-loop-arg
invariant-loop-arg l = highest_with l.made (drop l.arg-index l.args) ≡ highest l.args
