use Rattle.std.proofs.Common.{◌≡◌}
use Rattle.bare_forms.specs.Runs.{bind_below}
use Rattle.bare_forms.proofs.run.bind_all.Given as goal

-- what the weaker operators make of the run is what all make of it
abbrev pub invariant-loop-strength : goal.invariant-loop-strength
invariant-loop-strength g l =
    let joined = g.A.Operand.joined in
    bind_below joined l.strength l.before.items l.last ≡ bind_below joined 10 l.initial.before.items l.initial.last

abbrev pub decreases-loop-strength : goal.decreases-loop-strength
decreases-loop-strength g l = l.strength
