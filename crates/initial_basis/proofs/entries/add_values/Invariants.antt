use Rattle.std.proofs.Common.{◌≡◌, ◌++◌, drop}
use Rattle.initial_basis.specs.Basis.{values_of}
use Rattle.initial_basis.proofs.entries.add_values.Given as goal

abbrev pub invariant-loop-row : goal.invariant-loop-row
invariant-loop-row l =
    l.values ++ values_of l.names l.status (drop l.row-index l.fn.rows)
    ≡ l.fn.values ++ values_of l.names l.status l.fn.rows
