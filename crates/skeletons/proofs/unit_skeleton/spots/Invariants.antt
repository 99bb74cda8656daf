use Rattle.std.proofs.Common.{◌≡◌, map}
use Rattle.cm_base.specs.declared.record.Need.{Need}
use Rattle.skeletons.proofs.unit_skeleton.spots.Given as goal

-- the places so far
abbrev pub invariant-loop-need : goal.invariant-loop-need
invariant-loop-need l = l.list ≡ map (λ (need : Need). need.spot) l.yielded
