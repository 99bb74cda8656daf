use Rattle.std.proofs.Common.{◌≡◌, length}
use Rattle.bare_forms.specs.Nodes.{items_exp, cons_exp}
use Rattle.expression_nodes.proofs.node.list_exp.Given as goal

-- the items that are left before what is made
abbrev pub invariant-loop-item : goal.invariant-loop-item
invariant-loop-item l =
    items_exp cons_exp l.at l.items.items l.rest ≡ items_exp cons_exp l.at l.initial.items.items l.initial.rest

abbrev pub decreases-loop-item : goal.decreases-loop-item
decreases-loop-item l = length l.items.items
