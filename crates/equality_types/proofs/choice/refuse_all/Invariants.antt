use Rattle.std.proofs.Common.{take}
use Rattle.std.specs.Prelude.{Contains}
use Rattle.equality_types.specs.Falling.{Falls}
use Rattle.equality_types.proofs.choice.refuse_all.Given as goal

abbrev pub invariant-loop-at : goal.invariant-loop-at
invariant-loop-at l =
    Falls (Contains (take l.at-index l.list)) l.fn.choice l.choice l.fn.work.items l.work.items
