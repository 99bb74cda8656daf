use Rattle.std.proofs.Common.{◌≡◌, length}
use Rattle.grammars.specs.Reading.{read}
use Rattle.core_expressions.specs.Expressions.{constraints}
use Rattle.core_expressions.specs.Levels.{below}
use Rattle.core_expressions.proofs.exp_constraints.constraints.Given as goal

-- What is left to read goes on from what was constrained so far.
abbrev pub invariant-loop-alloc : goal.invariant-loop-alloc
invariant-loop-alloc l =
    read (constraints l.levels (below l.levels) l.at l.left) l.lexemes.rest.now
    ≡ read (constraints l.levels (below l.levels) l.at l.fn.first) l.fn.lexemes.rest.now

abbrev pub decreases-loop-alloc : goal.decreases-loop-alloc
decreases-loop-alloc l = length l.lexemes.rest.now
