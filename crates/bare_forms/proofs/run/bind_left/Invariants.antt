use Rattle.std.proofs.Common.{◌≡◌, ◌++◌, length, reverse}
use Rattle.bare_forms.specs.Runs.{bind_left}
use Rattle.bare_forms.proofs.run.bind_left.Given as goal

-- those that stay, and what the operators that are left make
abbrev pub invariant-loop-operator : goal.invariant-loop-operator
invariant-loop-operator g l =
    let joined = g.A.Operand.joined in
    let run = bind_left joined l.strength l.last (reverse l.after.items) in
    let whole = bind_left joined l.strength l.initial.last (reverse l.initial.after.items) in
    record { before : l.before.items ++ run.before ≡ whole.before; last : run.last ≡ whole.last }

abbrev pub decreases-loop-operator : goal.decreases-loop-operator
decreases-loop-operator g l = length l.after.items
