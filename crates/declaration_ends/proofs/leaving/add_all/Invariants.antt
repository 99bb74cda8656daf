use Rattle.std.proofs.Common.{◌≡◌, ◌++◌, drop}
use Rattle.declaration_ends.proofs.leaving.add_all.Given as goal

abbrev pub invariant-loop-id : goal.invariant-loop-id
invariant-loop-id l = l.ids ++ drop l.id-index l.fn.more ≡ l.fn.ids ++ l.fn.more
