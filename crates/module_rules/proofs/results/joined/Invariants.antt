use Rattle.std.proofs.Common.{◌≡◌, ◌++◌}
use Rattle.type_walks.specs.Replaced.{rows_of}
use Rattle.module_rules.proofs.results.joined.Given as goal

-- the rows of what was added, and the rows that are left
abbrev pub invariant-loop-row : goal.invariant-loop-row
invariant-loop-row l = rows_of l.list ++ rows_of l.row-iterator.rest.items ≡ rows_of l.fn.front.list ++ rows_of l.fn.back.list
