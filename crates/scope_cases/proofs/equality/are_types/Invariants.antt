use Rattle.std.proofs.Common.{ℕ, ◌<◌, List, length, get_or}
use Rattle.std.specs.Prelude.{All}
use Rattle.scope_cases.proofs.equality.are_types.Given as goal

abbrev pub invariant-loop-list : goal.invariant-loop-list
invariant-loop-list l = (k : ℕ) (d : List ℕ) → k < l.list-index
    → All (λ at. at < length l.holders) (get_or l.holders k d)
