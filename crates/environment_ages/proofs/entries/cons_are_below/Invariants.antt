use Rattle.std.proofs.Common.{drop}
use Rattle.std.specs.Prelude.{◌↔◌}
use Rattle.static_semantics.specs.Holding.{AllItems, ConHas}
use Rattle.environment_ages.specs.Below.{SchemeBelow}
use Rattle.environment_ages.proofs.entries.cons_are_below.Given as goal

-- all constructors are so where those that are left are
abbrev pub invariant-loop-con : goal.invariant-loop-con
invariant-loop-con l =
    AllItems (ConHas (SchemeBelow l.fn.count)) (drop l.con-index l.fn.cons)
    ↔ AllItems (ConHas (SchemeBelow l.fn.count)) l.fn.cons
