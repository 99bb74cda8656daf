use Rattle.std.proofs.Common.{◌≡◌, ◌++◌, drop}
use Rattle.std.specs.List.{flat_map}
use Rattle.cm_conditions.specs.Printing.{printed_step}
use Rattle.cm_conditions.proofs.printing.+printing.Given as goal

-- what is printed, and the operators that are left
abbrev pub invariant-add_steps-loop-step : goal.invariant-add_steps-loop-step
invariant-add_steps-loop-step l =
    l.out.items ++ flat_map printed_step (drop l.step-index l.steps) ≡ l.fn.out.items ++ flat_map printed_step l.steps
