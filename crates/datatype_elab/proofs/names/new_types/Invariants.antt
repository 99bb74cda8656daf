use Rattle.std.proofs.Common.{drop}
use Rattle.datatype_elab.proofs.Naming.{TypesSoFar}
use Rattle.datatype_elab.proofs.names.new_types.Given as goal

-- what was made so far, and the bindings that are left
abbrev pub invariant-loop-bind : goal.invariant-loop-bind
invariant-loop-bind l = TypesSoFar l.fn.g l.fn.binds (drop l.bind-index l.fn.binds) l.number l.rows
