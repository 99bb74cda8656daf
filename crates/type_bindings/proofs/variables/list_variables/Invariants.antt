use Rattle.std.proofs.Common.{drop}
use Rattle.type_bindings.proofs.ListedSoFar.{ListedSoFar}
use Rattle.type_bindings.proofs.variables.list_variables.Given as goal

-- what was made so far, and the names that are left
abbrev pub invariant-loop-name : goal.invariant-loop-name
invariant-loop-name l = ListedSoFar l.fn.g l.fn.t l.fn.names (drop l.name-index l.fn.names) l.t l.rows
