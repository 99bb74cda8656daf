use Rattle.std.proofs.Common.{drop}
use Rattle.std.specs.Prelude.{◌↔◌}
use Rattle.static_semantics.specs.Holding.{AllItems, ConHas}
use Rattle.given_tops.specs.Names.{nodes_of}
use Rattle.given_tops.specs.Fitting.{SchemeFits}
use Rattle.given_tops.proofs.entries.cons_fit.Given as goal

-- all constructors are so where those that are left are
abbrev pub invariant-loop-con : goal.invariant-loop-con
invariant-loop-con l =
    AllItems (ConHas (SchemeFits (nodes_of l.fn.limits))) (drop l.con-index l.fn.cons)
    ↔ AllItems (ConHas (SchemeFits (nodes_of l.fn.limits))) l.fn.cons
