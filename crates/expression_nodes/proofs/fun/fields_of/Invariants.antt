use Rattle.std.proofs.Common.{◌≡◌, ◌++◌, length, reverse}
use Rattle.bare_forms.specs.Patterns.{pat_fields_from}
use Rattle.expression_nodes.proofs.fun.fields_of.Given as goal

-- the parts that are left, and the fields that are made, from the last on
abbrev pub invariant-loop-part : goal.invariant-loop-part
invariant-loop-part l =
    pat_fields_from l.at 1 l.parts.items ++ reverse l.fields.items ≡ pat_fields_from l.at 1 l.initial.parts.items

abbrev pub decreases-loop-part : goal.decreases-loop-part
decreases-loop-part l = length l.parts.items
