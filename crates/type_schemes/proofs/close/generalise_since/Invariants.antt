use Rattle.std.proofs.Common.{◌≡◌, ◌++◌, drop}
use Rattle.type_nodes.specs.Tables.{state}
use Rattle.type_schemes.specs.Schemes.{schemes_since}
use Rattle.type_schemes.proofs.close.generalise_since.Given as goal

abbrev pub invariant-loop-ty : goal.invariant-loop-ty
invariant-loop-ty l =
    l.schemes ++ schemes_since l.fn.table (state l.fn.since).next (drop l.ty-index l.fn.tys)
    ≡ schemes_since l.fn.table (state l.fn.since).next l.fn.tys
