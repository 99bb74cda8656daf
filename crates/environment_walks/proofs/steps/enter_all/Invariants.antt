use Rattle.std.proofs.Common.{◌≡◌, ◌++◌, ℕ, List, length}
use Rattle.environment_walks.specs.Stepping.{entered}
use Rattle.environment_walks.proofs.steps.enter_all.Given as goal

-- the steps for the places behind those that are left were added
abbrev pub invariant-loop-last : goal.invariant-loop-last
invariant-loop-last l =
    (behind : List ℕ) × (l.fn.places ≡ l.rest ++ behind) × (l.steps ≡ l.fn.steps ++ entered behind)

abbrev pub decreases-loop-last : goal.decreases-loop-last
decreases-loop-last l = length l.rest
