use Rattle.std.proofs.Common.{◌≡◌, ◌++◌}
use Rattle.closing_laws.specs.Variables.{variables_of}
use Rattle.value_closing.specs.Groups.{groups_of}
use Rattle.value_closing.specs.Closings.{closings}
use Rattle.value_closing.proofs.closing.all_variables.Given as goal

-- what was added, and the bindings that are left
abbrev pub invariant-loop-group : goal.invariant-loop-group
invariant-loop-group l =
    closings l.all ++ variables_of (groups_of l.group-iterator.rest.items) ≡ variables_of (groups_of l.fn.groups)
