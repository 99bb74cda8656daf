use Rattle.std.proofs.Common.{◌≡◌, ◌++◌, length, drop}
use Rattle.initial_basis.specs.Basis.{names_from}
use Rattle.initial_basis.proofs.type_names.names_of.Given as goal

abbrev pub invariant-loop-row : goal.invariant-loop-row
invariant-loop-row l = l.names ++ names_from (length l.names) (drop l.row-index l.fn.rows) ≡ names_from 0 l.fn.rows
