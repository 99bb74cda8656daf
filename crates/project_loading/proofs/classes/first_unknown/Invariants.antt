use Rattle.std.proofs.Common.{◌≡◌, drop, not}
use Rattle.std.specs.List.{find}
use Rattle.project_loading.specs.Projects.{has_option}
use Rattle.project_loading.proofs.classes.first_unknown.Given as goal

-- the first of the options that are left is that of all
abbrev pub invariant-loop-option : goal.invariant-loop-option
invariant-loop-option l =
    find (λ option. not (has_option l.class option)) (drop l.option-index l.options)
    ≡ find (λ option. not (has_option l.class option)) l.options
