use Rattle.datatype_elab.proofs.Binding.{TypesMade}
use Rattle.datatype_elab.proofs.environment.make_all.Given as goal

abbrev pub invariant-loop-at : goal.invariant-loop-at
invariant-loop-at g l = TypesMade l.fn.new.home l.fn.new.first l.fn.choice l.fn.dats l.at l.made
