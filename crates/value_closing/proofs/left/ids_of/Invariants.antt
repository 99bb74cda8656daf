use Rattle.std.proofs.Common.{◌≡◌, take}
use Rattle.value_closing.specs.Closings.{ids_of}
use Rattle.value_closing.proofs.left.ids_of.Given as goal

abbrev pub invariant-loop-row : goal.invariant-loop-row
invariant-loop-row l = l.ids ≡ ids_of (take l.row-index l.rows)
