use Rattle.std.proofs.Common.{◌≡◌, ◌++◌, ◌+◌, drop}
use Rattle.bare_forms.specs.Nodes.{subject_fields}
use Rattle.expression_nodes.proofs.fun.subject_fields.Given as goal

-- what is made, and the arguments that are left
abbrev pub invariant-loop-arg : goal.invariant-loop-arg
invariant-loop-arg l =
    (l.number ≡ l.arg-index + 1)
    × (l.fields ++ subject_fields l.at l.number (drop l.arg-index l.args) ≡ subject_fields l.at 1 l.args)
