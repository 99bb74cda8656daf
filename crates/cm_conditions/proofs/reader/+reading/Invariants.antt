use Rattle.std.proofs.Common.{◌≡◌, ◌+◌, ◌*◌, length}
use Rattle.grammars.specs.Reading.{read}
use Rattle.cm_conditions.specs.Grammar.{part, rounds, below}
use Rattle.cm_conditions.proofs.ReadingSteps.{rank}
use Rattle.cm_conditions.proofs.reader.+reading.Given as goal

-- Each function goes down a level, or to one that stands lower in the order of calls at one level.
abbrev pub decreases-in_parens : goal.decreases-in_parens
decreases-in_parens l = 20 * l.levels

abbrev pub decreases-atom_after : goal.decreases-atom_after
decreases-atom_after l = 20 * l.levels + 1

abbrev pub decreases-atom : goal.decreases-atom
decreases-atom l = 20 * l.levels + 2

abbrev pub decreases-factor : goal.decreases-factor
decreases-factor l = 20 * l.levels + 3

abbrev pub decreases-part : goal.decreases-part
decreases-part l = 20 * l.levels + rank l.strength

abbrev pub decreases-rounds : goal.decreases-rounds
decreases-rounds l = 20 * l.levels + rank l.strength + 1

abbrev pub decreases-chain : goal.decreases-chain
decreases-chain l = 20 * l.levels + rank l.strength + 2

abbrev pub decreases-compared : goal.decreases-compared
decreases-compared l = 20 * l.levels + 10

abbrev pub decreases-comparison : goal.decreases-comparison
decreases-comparison l = 20 * l.levels + 11

abbrev pub decreases-condition : goal.decreases-condition
decreases-condition l = 20 * l.levels + 19

-- What is left to read goes on from what was joined so far.
abbrev pub invariant-rounds-loop-operator : goal.invariant-rounds-loop-operator
invariant-rounds-loop-operator l =
    read (rounds (part (below l.levels) l.strength) l.strength l.left) l.cursor.rest.now
    ≡ read (rounds (part (below l.levels) l.strength) l.strength l.fn.first) l.fn.cursor.rest.now

abbrev pub decreases-rounds-loop-operator : goal.decreases-rounds-loop-operator
decreases-rounds-loop-operator l = length l.cursor.rest.now
