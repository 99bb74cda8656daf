use Rattle.std.proofs.Common.{drop}
use Rattle.datatype_elab.proofs.Consing.{ConsSoFar}
use Rattle.datatype_elab.proofs.cons.read_cons.Given as goal

-- what was read so far, and the constructors that are left
abbrev pub invariant-loop-con : goal.invariant-loop-con
invariant-loop-con g l =
    ConsSoFar l.fn.g l.fn.t l.fn.scope l.fn.refused l.fn.names l.fn.variables l.fn.cons (drop l.con-index l.fn.cons) l.t
    l.names l.made
