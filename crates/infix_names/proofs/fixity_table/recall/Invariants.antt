use Rattle.std.proofs.Common.{◌≡◌, ◌≤◌, length, take}
use Rattle.infix_names.specs.FixityTables.{links_of, HasAll, IsPlaced}
use Rattle.infix_names.proofs.fixity_table.recall.Given as goal

-- the table tells the entries up to here, and so do the links
abbrev pub invariant-loop-at : goal.invariant-loop-at
invariant-loop-at l = record {
  placed : IsPlaced l.last (take l.at l.entries);
  linked : take l.at l.links ≡ links_of (take l.at l.entries);
  as_long : length l.links ≡ length l.entries;
  known : HasAll l.last l.entries;
  order : l.start ≤ l.at;
  within : l.at ≤ length l.entries;
}
