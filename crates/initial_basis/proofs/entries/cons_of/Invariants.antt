use Rattle.std.proofs.Common.{◌≡◌, ◌++◌, drop}
use Rattle.initial_basis.specs.Basis.{cons_of}
use Rattle.initial_basis.proofs.entries.cons_of.Given as goal

abbrev pub invariant-loop-row : goal.invariant-loop-row
invariant-loop-row l = l.cons ++ cons_of l.names (drop l.row-index l.fn.rows) l.fn.ty ≡ cons_of l.names l.fn.rows l.fn.ty
