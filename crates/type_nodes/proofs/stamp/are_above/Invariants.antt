use Rattle.std.proofs.Common.{length}
use Rattle.type_nodes.specs.Stamps.{AreAbove}
use Rattle.type_nodes.proofs.stamp.are_above.Given as goal

-- where the entries that are left are above, all are
abbrev pub invariant-loop-first : goal.invariant-loop-first
invariant-loop-first l = AreAbove l.fn.number l.rest → AreAbove l.fn.number l.fn.entries

abbrev pub decreases-loop-first : goal.decreases-loop-first
decreases-loop-first l = length l.rest
