use Rattle.std.proofs.Common.{◌≡◌, ◌++◌, map, drop}
use Rattle.row_environments.specs.Answers.{value_name_of}
use Rattle.row_environments.proofs.tables.value_names.Given as goal

abbrev pub invariant-loop-row : goal.invariant-loop-row
invariant-loop-row l = l.names ++ map value_name_of (drop l.row-index l.fn.table) ≡ map value_name_of l.fn.table
