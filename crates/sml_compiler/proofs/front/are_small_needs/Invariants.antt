use Rattle.std.proofs.Common.{take, All}
use Rattle.cm_base.specs.Calls.{IsSmallSpot}
use Rattle.sml_compiler.proofs.front.are_small_needs.Given as goal

abbrev pub invariant-loop-need : goal.invariant-loop-need
invariant-loop-need l = All (λ need. IsSmallSpot need.spot) (take l.need-index l.needs)
