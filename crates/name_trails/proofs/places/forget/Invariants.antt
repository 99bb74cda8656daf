use Rattle.std.proofs.Common.{◌-◌, ◌≤◌, length, take}
use Rattle.name_trails.specs.Places.{IsPlaced}
use Rattle.name_trails.proofs.places.forget.Given as goal

-- the table tells the rows up to here
abbrev pub invariant-loop-at : goal.invariant-loop-at
invariant-loop-at g l = record {
  placed : IsPlaced l.last (take l.at l.rows);
  order : l.start ≤ l.at;
  within : l.at ≤ length l.rows;
}

abbrev pub decreases-loop-at : goal.decreases-loop-at
decreases-loop-at g l = l.at - l.start
