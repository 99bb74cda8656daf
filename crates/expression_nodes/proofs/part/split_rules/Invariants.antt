use Rattle.std.proofs.Common.{◌≡◌, ◌++◌, length, reverse}
use Rattle.bare_forms.specs.Expressions.{plain_rules, rec_rules}
use Rattle.expression_nodes.proofs.Split.{plain_left, rec_left}
use Rattle.expression_nodes.proofs.part.split_rules.Given as goal

-- what is made, and the bindings that are left
abbrev pub invariant-loop-bind : goal.invariant-loop-bind
invariant-loop-bind l = record {
  plain : l.plain ++ plain_left l.begun (reverse l.left.items) ≡ plain_rules (reverse l.initial.left.items);
  recs : l.recs ++ rec_left l.begun (reverse l.left.items) ≡ rec_rules (reverse l.initial.left.items);
}

abbrev pub decreases-loop-bind : goal.decreases-loop-bind
decreases-loop-bind l = length l.left.items
