use Rattle.std.proofs.Common.{◌≡◌}
use Rattle.value_closing.proofs.Closings.{ValuesSoFar}
use Rattle.value_closing.proofs.values.values_by.Given as goal

-- what was made, and the variables and schemes that are left
abbrev pub invariant-loop-variable : goal.invariant-loop-variable
invariant-loop-variable l = record {
  same : l.t ≡ l.fn.t;
  made : ValuesSoFar l.fn.t l.fn.variables l.fn.schemes l.variable-iterator.rest.items l.left l.values;
}
