use Rattle.std.proofs.Common.{◌≡◌, ◌++◌, ◌==◌, ℕ, List, length, nat_eq}
use Rattle.std.specs.List.{position_from}
use Rattle.indexmap.specs.IndexMap.{get}
use Rattle.visibility.proofs.places.places_of.Given as goal

-- the table has the places of the groups behind those that are left
abbrev pub invariant-loop-group : goal.invariant-loop-group
invariant-loop-group l =
    (behind : List ℕ) × (l.fn.finished ≡ l.rest ++ behind)
    × ((g : ℕ) → get nat_eq l.places g ≡ position_from (λ h. h == g) (length l.rest) behind)

abbrev pub decreases-loop-group : goal.decreases-loop-group
decreases-loop-group l = length l.rest
