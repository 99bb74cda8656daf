use Rattle.std.proofs.Common.{take, All}
use Rattle.cm_base.specs.Calls.{IsSmallSpot}
use Rattle.sml_compiler.proofs.front.are_small_spots.Given as goal

abbrev pub invariant-loop-spot : goal.invariant-loop-spot
invariant-loop-spot l = All IsSmallSpot (take l.spot-index l.spots)
