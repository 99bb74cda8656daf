use Rattle.std.proofs.Common.{◌≡◌, ◌++◌, map, drop}
use Rattle.initial_basis.specs.Basis.{value_of}
use Rattle.initial_basis.proofs.entries.add_row.Given as goal

abbrev pub invariant-loop-name : goal.invariant-loop-name
invariant-loop-name l =
    l.values ++ map (value_of l.names l.status l.fn.row.is) (drop l.name-index l.fn.row.names)
    ≡ l.fn.values ++ map (value_of l.names l.status l.fn.row.is) l.fn.row.names
