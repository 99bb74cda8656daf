use Rattle.std.proofs.Common.{◌-◌, ◌≤◌, length, take}
use Rattle.infix_names.specs.FixityTables.{HasTheSame, IsPlaced}
use Rattle.infix_names.proofs.fixity_table.forget.Given as goal

-- the table tells the entries up to here
abbrev pub invariant-loop-at : goal.invariant-loop-at
invariant-loop-at l = record {
  placed : IsPlaced l.last (take l.at l.entries);
  alike : HasTheSame l.fn.last l.last;
  order : l.start ≤ l.at;
  within : l.at ≤ length l.entries;
}

abbrev pub decreases-loop-at : goal.decreases-loop-at
decreases-loop-at l = l.at - l.start
