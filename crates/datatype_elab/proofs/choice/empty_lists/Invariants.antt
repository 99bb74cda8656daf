use Rattle.std.proofs.Common.{◌≡◌, replicate, []}
use Rattle.datatype_elab.proofs.choice.empty_lists.Given as goal

abbrev pub invariant-loop-at : goal.invariant-loop-at
invariant-loop-at l = l.lists.items ≡ replicate l._at []
