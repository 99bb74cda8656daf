use Rattle.std.proofs.Common.{ℕ, ◌<◌, get_or}
use Rattle.scope_cases.proofs.equality.are_below.Given as goal

abbrev pub invariant-loop-at : goal.invariant-loop-at
invariant-loop-at l = (k : ℕ) (d : ℕ) → k < l.at-index → get_or l.list k d < l.count
