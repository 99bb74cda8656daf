use Rattle.std.proofs.Common.{◌≡◌, ◌<◌, true}
use Rattle.equality_types.specs.Choices.{is_barred}
use Rattle.equality_types.specs.Falling.{Falls}
use Rattle.equality_types.proofs.choice.refuse_barred.Given as goal

abbrev pub invariant-loop-at : goal.invariant-loop-at
invariant-loop-at l =
    Falls (λ at. (at < l.at) × (is_barred l.barred at ≡ true)) l.fn.choice l.choice l.fn.work.items l.work.items
