use Rattle.std.proofs.Common.{◌≡◌, drop}
use Rattle.type_nodes.specs.Tables.{state}
use Rattle.closing_laws.specs.Variables.{any_too_large}
use Rattle.value_closing.specs.Closings.{closings}
use Rattle.value_closing.proofs.sizes.any_too_large.Given as goal

-- the variables that are left tell it
abbrev pub invariant-loop-variable : goal.invariant-loop-variable
invariant-loop-variable l = record {
  same : l.t ≡ l.fn.t;
  left : any_too_large (state l.fn.t) (closings (drop l.variable-index l.variables))
      ≡ any_too_large (state l.fn.t) (closings l.variables);
}
