use Rattle.std.proofs.Common.{◌≡◌, ◌++◌, length, reverse}
use Rattle.bare_forms.specs.Runs.{bind_right}
use Rattle.bare_forms.proofs.run.bind_right.Given as goal

-- what the operators that are left make, and those behind them that stay
abbrev pub invariant-loop-operand : goal.invariant-loop-operand
invariant-loop-operand g l =
    let joined = g.A.Operand.joined in
    let run = bind_right joined l.strength l.before.items l.first in
    let whole = bind_right joined l.strength l.initial.before.items l.initial.first in
    record { first : run.first ≡ whole.first; after : run.after ++ reverse l.after.items ≡ whole.after }

abbrev pub decreases-loop-operand : goal.decreases-loop-operand
decreases-loop-operand g l = length l.before.items
