use Rattle.std.proofs.Common.{◌≡◌, ◌++◌}
use Rattle.core_scopes.specs.Listed.{scope_rows}
use Rattle.type_bindings.specs.Replicas.{con_rows}
use Rattle.type_bindings.proofs.replication.con_values.Given as goal

-- what was listed, and the constructors that are left
abbrev pub invariant-loop-con : goal.invariant-loop-con
invariant-loop-con g l = scope_rows l.values ++ con_rows l.con-iterator.rest.items ≡ con_rows l.fn.cons
