use Rattle.std.proofs.Common.{◌≡◌, ◌++◌, length, map, reverse}
use Rattle.bare_forms.specs.Nodes.{clause_rule}
use Rattle.expression_nodes.proofs.fun.clause_rules.Given as goal

-- what is made, and the clauses that are left
abbrev pub invariant-loop-clause : goal.invariant-loop-clause
invariant-loop-clause l =
    l.made ++ map clause_rule (reverse l.left.items) ≡ map clause_rule (reverse l.initial.left.items)

abbrev pub decreases-loop-clause : goal.decreases-loop-clause
decreases-loop-clause l = length l.left.items
