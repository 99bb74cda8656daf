use Rattle.std.proofs.Common.{◌≡◌, ◌++◌, take}
use Rattle.core_rules.proofs.sequence.add_values.Given as goal

-- what was added
abbrev pub invariant-loop-row : goal.invariant-loop-row
invariant-loop-row l = l.all ≡ l.fn.all ++ take l.row-index l.more
