use Rattle.std.proofs.Common.{◌≡◌, ◌++◌}
use Rattle.pattern_elab.specs.Scopes.{bound_of}
use Rattle.closing_laws.specs.Variables.{all_closing}
use Rattle.value_closing.specs.Groups.{own_rows}
use Rattle.value_closing.specs.Closings.{closings}
use Rattle.value_closing.proofs.closing.add_all.Given as goal

-- what was added, and the variables that are left
abbrev pub invariant-loop-variable : goal.invariant-loop-variable
invariant-loop-variable l =
    closings l.all ++ all_closing l.closes (bound_of (own_rows l.variable-iterator.rest.items))
    ≡ closings l.fn.all ++ all_closing l.closes (bound_of (own_rows l.fn.variables))
