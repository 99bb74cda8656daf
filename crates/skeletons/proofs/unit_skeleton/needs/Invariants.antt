use Rattle.std.proofs.Common.{◌≡◌, map, List}
use Rattle.cm_base.specs.declared.record.Need.{Need}
use Rattle.skeletons.specs.Skeletons.{need_of}
use Rattle.skeletons.specs.Tables.{AreSure}
use Rattle.skeletons.proofs.unit_skeleton.needs.Given as goal

-- the names so far
abbrev pub invariant-loop-spot : goal.invariant-loop-spot
invariant-loop-spot l = (uses : List Need) → AreSure uses l.names → l.list ≡ map (need_of uses) l.yielded
