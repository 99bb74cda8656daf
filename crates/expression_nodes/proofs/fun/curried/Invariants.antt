use Rattle.std.proofs.Common.{◌≡◌}
use Rattle.bare_forms.specs.Nodes.{curried}
use Rattle.expression_nodes.proofs.fun.curried.Given as goal

-- the arguments that are left before what is made
abbrev pub invariant-loop-number : goal.invariant-loop-number
invariant-loop-number l = curried l.at 1 l.number l.made ≡ curried l.at 1 l.initial.number l.initial.made

abbrev pub decreases-loop-number : goal.decreases-loop-number
decreases-loop-number l = l.number
