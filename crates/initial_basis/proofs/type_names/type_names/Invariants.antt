use Rattle.std.proofs.Common.{◌≡◌, ◌++◌, drop, map}
use Rattle.initial_basis.specs.declared.type_names.NamedName.{NamedName}
use Rattle.initial_basis.proofs.type_names.type_names.Given as goal

abbrev pub invariant-loop-row : goal.invariant-loop-row
invariant-loop-row l =
    l.names ++ map (λ (row : NamedName). row.is) (drop l.row-index l.fn.rows) ≡ map (λ (row : NamedName). row.is) l.fn.rows
