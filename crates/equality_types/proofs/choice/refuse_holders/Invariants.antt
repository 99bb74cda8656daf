use Rattle.std.proofs.Common.{◌+◌, length}
use Rattle.std.specs.Prelude.{count_by}
use Rattle.equality_types.specs.Falling.{IsFalling}
use Rattle.equality_types.proofs.choice.refuse_holders.Given as goal

abbrev pub invariant-loop-part : goal.invariant-loop-part
invariant-loop-part l = IsFalling l.barred l.holders l.choice l.work.items

abbrev pub decreases-loop-part : goal.decreases-loop-part
decreases-loop-part l = count_by (λ b. b) l.choice + length l.work.items
