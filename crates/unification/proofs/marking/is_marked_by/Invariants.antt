use Rattle.std.proofs.Common.{◌≡◌, ◌||◌, drop}
use Rattle.unification.specs.Plain.{variables_of}
use Rattle.unification.proofs.Steps.{is_in}
use Rattle.unification.proofs.marking.is_marked_by.Given as goal

abbrev pub invariant-loop-other : goal.invariant-loop-other
invariant-loop-other l =
    (is_in l.fn.variable (drop l.other-index l.fn.marked) || l.has)
    ≡ (is_in l.fn.variable l.fn.marked || (variables_of l.fn.kinds).marks l.fn.variable)
