use Rattle.std.proofs.Common.{◌≡◌, drop, map}
use Rattle.cm_description.specs.Modules.{some, step_names_module}
use Rattle.cm_description.proofs.modules.+modules.Given as goal

-- the operators that are left ask what all ask
abbrev pub invariant-some_name_modules-loop-step : goal.invariant-some_name_modules-loop-step
invariant-some_name_modules-loop-step l =
    some (map step_names_module (drop l.step-index l.steps)) ≡ some (map step_names_module l.steps)
