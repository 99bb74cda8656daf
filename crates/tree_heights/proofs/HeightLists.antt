-- The last height of a list, taken first.
use Rattle.std.proofs.Common.{◌≡◌, ℕ, zero, suc, max, ◌-◌, ◌<◌, List, [], ◌∷◌, ◌++◌, refl, ap, ◌∙◌, arith}
use Rattle.tree_heights.specs.NodeHeights.{in_turn, then_height, sequence_from, sequence_height, curried_height}

pub in_turn-append : (node : ℕ → ℕ → ℕ) (heights : List ℕ) (height rest : ℕ)
    → in_turn node (heights ++ height ∷ []) rest ≡ in_turn node heights (node height rest)
in_turn-append node [] height rest = refl
in_turn-append node (other ∷ heights) height rest = ap (node other) (in_turn-append node heights height rest)

from-append : (first : ℕ) (heights : List ℕ) (height : ℕ)
    → sequence_from first (heights ++ height ∷ []) ≡ then_height first (in_turn then_height heights height)
from-append first [] height = refl
from-append first (next ∷ heights) height = ap (then_height first) (from-append next heights height)

pub sequence-append : (heights : List ℕ) (height : ℕ)
    → sequence_height (heights ++ height ∷ []) ≡ in_turn then_height heights height
sequence-append [] height = refl
sequence-append (first ∷ heights) height = from-append first heights height

pub ruleset height_steps = (in_turn-append, sequence-append)

-- the innermost function of several arguments
curried-more : (n body : ℕ) → curried_height n (suc (max 1 body)) ≡ curried_height (suc n) body
curried-more zero body = refl
curried-more (suc n) body = ap (λ h. suc (max 1 h)) (curried-more n body)

pub curried_step : (left body both made whole : ℕ) → 0 < left → both ≡ max 1 body → made ≡ suc both
    → curried_height left body ≡ whole → curried_height (left - 1) made ≡ whole
curried_step left body both made whole more both_is made_is is =
    let count : suc (left - 1) ≡ left = omega (arith, more) in
    ap (curried_height (left - 1)) (made_is ∙ ap suc both_is)
    ∙ curried-more (left - 1) body ∙ ap (λ n. curried_height n body) count ∙ is
