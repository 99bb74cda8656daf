use Rattle.std.proofs.Common.{◌≡◌, Some, drop, map}
use Rattle.cm_conditions.specs.Tables.{table_def, table_module}
use Rattle.cm_conditions.specs.Values.{steps_value, step_by}
use Rattle.cm_conditions.proofs.+value.Given as goal

-- the operators that are left give, from the value so far, what all give
abbrev pub invariant-evaluation::value_behind-loop-step :
    goal.invariant-evaluation::value_behind-loop-step
invariant-evaluation::value_behind-loop-step l =
    let one = step_by (table_def l.names) (table_module l.names) in
    steps_value (map one (drop l.step-index l.steps)) (Some l.left) ≡ steps_value (map one l.steps) (Some l.fn.first)
