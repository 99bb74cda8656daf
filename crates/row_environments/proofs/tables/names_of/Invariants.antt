use Rattle.std.proofs.Common.{◌≡◌, ◌++◌, map, drop}
use Rattle.row_types.specs.Told.{name_of}
use Rattle.row_environments.proofs.tables.names_of.Given as goal

abbrev pub invariant-loop-row : goal.invariant-loop-row
invariant-loop-row l = l.names ++ map name_of (drop l.row-index l.fn.table) ≡ map name_of l.fn.table
