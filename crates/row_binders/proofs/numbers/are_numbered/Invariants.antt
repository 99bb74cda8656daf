use Rattle.std.proofs.Common.{◌≡◌, ◌+◌, drop}
use Rattle.row_binders.proofs.Numbered.{NumberedAlike}
use Rattle.row_binders.proofs.numbers.are_numbered.Given as goal

abbrev pub invariant-loop-name : goal.invariant-loop-name
invariant-loop-name l = record {
  is : l.next ≡ l.fn.first + l.name-index;
  alike : NumberedAlike l.fn.first l.fn.names l.next (drop l.name-index l.fn.names);
}
