use Rattle.std.proofs.Common.{◌≡◌, ◌++◌}
use Rattle.core_scopes.specs.Listed.{scope_rows}
use Rattle.datatype_elab.specs.Binding.{con_values}
use Rattle.datatype_elab.proofs.environment.add_values.Given as goal

abbrev pub invariant-loop-con : goal.invariant-loop-con
invariant-loop-con g l =
    scope_rows l.values ++ con_values l.con-iterator.rest.items ≡ scope_rows l.fn.values ++ con_values l.fn.cons
