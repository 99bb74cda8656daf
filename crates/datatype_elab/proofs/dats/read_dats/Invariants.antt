use Rattle.std.proofs.Common.{◌≡◌, drop}
use Rattle.datatype_elab.proofs.Dating.{DatsSoFar}
use Rattle.datatype_elab.proofs.dats.read_dats.Given as goal

-- what was read so far, and the bindings that are left; and the scope is as it was
abbrev pub invariant-loop-bind : goal.invariant-loop-bind
invariant-loop-bind g l =
    DatsSoFar l.fn.g l.fn.t l.fn.scope l.fn.refused l.fn.binds (drop l.bind-index l.fn.binds) l.t l.names l.made
    × (l.scope ≡ l.fn.scope)
