use Rattle.std.proofs.Common.{◌≡◌, length}
use Rattle.std.specs.FinMap.{empty, from_entries}
use Rattle.skeletons.specs.Skeletons.{position_cmp, placed}
use Rattle.skeletons.proofs.places.by_place.Given as goal

-- the table has the uses so far, and the next one has their number
abbrev pub invariant-loop-need : goal.invariant-loop-need
invariant-loop-need l = record {
  table : from_entries {R = position_cmp} l.table.entries ≡ placed empty 0 l.yielded;
  number : l.number ≡ length l.yielded;
}
