use Rattle.std.proofs.Common.{◌≡◌, ◌++◌, drop}
use Rattle.std.specs.List.{flat_map}
use Rattle.skeletons.specs.Skeletons.{top_spots}
use Rattle.skeletons.proofs.unit_skeleton.top_spots.Given as goal

-- the names so far, and those that are left
abbrev pub invariant-loop-topdec : goal.invariant-loop-topdec
invariant-loop-topdec l = l.found ++ flat_map top_spots (drop l.topdec-index l.topdecs) ≡ flat_map top_spots l.fn.topdecs
