use Rattle.visibility.specs.Tables.{HasNames}
use Rattle.visibility.proofs.defaults.by_name.Given as goal

-- the table has the names so far
abbrev pub invariant-loop-name : goal.invariant-loop-name
invariant-loop-name l = HasNames l.table.entries l.yielded
