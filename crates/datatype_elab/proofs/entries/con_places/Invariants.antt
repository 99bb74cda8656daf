use Rattle.std.proofs.Common.{◌≡◌, ◌≤◌, length, drop}
use Rattle.datatype_elab.specs.Making.{places_from}
use Rattle.datatype_elab.proofs.entries.con_places.Given as goal

abbrev pub invariant-loop-at : goal.invariant-loop-at
invariant-loop-at l = (l.rows ≡ places_from l.at (drop l.at l.cons)) × (l.at ≤ length l.cons)

abbrev pub decreases-loop-at : goal.decreases-loop-at
decreases-loop-at l = l.at
