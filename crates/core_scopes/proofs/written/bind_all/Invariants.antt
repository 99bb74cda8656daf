use Rattle.std.proofs.Common.{◌≡◌, ◌++◌, length, take, reverse}
use Rattle.core_scopes.specs.Scopes.{written_rows}
use Rattle.core_scopes.proofs.written.bind_all.Given as goal

-- what is left, behind what was bound so far, is all behind what was there
abbrev pub invariant-loop-row : goal.invariant-loop-row
invariant-loop-row l = record {
  can : (goal.iterator-loop-row).can_next l.row-iterator;
  ends : (goal.iterator-loop-row).is_finite l.row-iterator;
  bound : l.trail ++ reverse (written_rows l.row-iterator.iter.rest.now)
      ≡ l.fn.trail ++ reverse (written_rows l.fn.rows);
  kept : take (length l.fn.trail) l.trail ≡ l.fn.trail;
}
