use Rattle.type_cases.specs.Closing.{NodeBinds}
use Rattle.type_cases.proofs.Closed.{Before}
use Rattle.type_cases.proofs.closing.is_closed_by.Given as goal

abbrev pub invariant-loop-node : goal.invariant-loop-node
invariant-loop-node l = Before (λ p x. NodeBinds l.count x) l.nodes l.node-index
