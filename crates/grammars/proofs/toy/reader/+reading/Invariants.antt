use Rattle.std.proofs.Common.{◌≡◌, ◌+◌, ◌*◌, ◌≤◌, length}
use Rattle.grammars.specs.Reading.{read}
use Rattle.grammars.specs.Sums.{below, joined}
use Rattle.grammars.specs.Seen.{seen}
use Rattle.grammars.proofs.toy.reader.+reading.Given as goal

-- Each function goes down a level, or to one that stands lower in the order of calls at one level.
abbrev pub decreases-negated : goal.decreases-negated
decreases-negated l = 8 * l.levels

abbrev pub decreases-grouped : goal.decreases-grouped
decreases-grouped l = 8 * l.levels

abbrev pub decreases-beside : goal.decreases-beside
decreases-beside l = 8 * l.levels

abbrev pub decreases-joined : goal.decreases-joined
decreases-joined l = 8 * l.levels + 1

abbrev pub decreases-atom : goal.decreases-atom
decreases-atom l = 8 * l.levels + 1

abbrev pub decreases-product : goal.decreases-product
decreases-product l = 8 * l.levels + 2

abbrev pub decreases-part : goal.decreases-part
decreases-part l = 8 * l.levels + 3

abbrev pub decreases-sum : goal.decreases-sum
decreases-sum l = 8 * l.levels + 3

-- What is left to read goes on from what was joined so far, which fits the limit.
abbrev pub invariant-joined-loop-operator : goal.invariant-joined-loop-operator
invariant-joined-loop-operator l = record {
  reads : read (joined l.levels (below l.levels) l.strength (seen l.left)) l.cursor.rest.now
      ≡ read (joined l.levels (below l.levels) l.strength (seen l.fn.first)) l.fn.cursor.rest.now;
  low : l.left.height ≤ l.levels;
}

abbrev pub decreases-joined-loop-operator : goal.decreases-joined-loop-operator
decreases-joined-loop-operator l = length l.cursor.rest.now
