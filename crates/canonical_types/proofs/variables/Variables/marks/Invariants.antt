use Rattle.std.proofs.Common.{◌≡◌, map, take}
use Rattle.unification.specs.Instances.{mark_of}
use Rattle.canonical_types.proofs.variables.Variables.marks.Given as goal

abbrev pub invariant-loop-variable : goal.invariant-loop-variable
invariant-loop-variable l = l.made ≡ map (mark_of l.fn.marks) (take l.variable-index l.fn.self)
