use Rattle.given_tops.proofs.Constructors.{RisesTo, cons_names}
use Rattle.given_tops.proofs.entries.cons_rise.Given as goal

abbrev pub invariant-loop-at : goal.invariant-loop-at
invariant-loop-at l = RisesTo l.at (cons_names l.fn.cons)
