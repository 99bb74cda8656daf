use Rattle.std.proofs.Common.{◌≡◌, ◌++◌, map, drop}
use Rattle.initial_basis.specs.Basis.{type_of_row}
use Rattle.initial_basis.proofs.types.types_of.Given as goal

abbrev pub invariant-loop-row : goal.invariant-loop-row
invariant-loop-row l =
    l.types ++ map (type_of_row l.names l.fn.cons) (drop l.row-index l.fn.rows)
    ≡ map (type_of_row l.names l.fn.cons) l.fn.rows
