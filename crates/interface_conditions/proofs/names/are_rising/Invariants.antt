use Rattle.interface_conditions.proofs.Named.{RisesTo}
use Rattle.interface_conditions.proofs.names.are_rising.Given as goal

abbrev pub invariant-loop-at : goal.invariant-loop-at
invariant-loop-at l = RisesTo l.at l.fn.names
