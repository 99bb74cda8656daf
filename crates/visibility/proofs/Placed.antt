-- How the table of places grows, from the last group on.
use Rattle.std.proofs.Common.{◌≡◌, ◌∙◌, sym, ap, ap₂, refl, ℕ, ◌+◌, ◌==◌, cond, List, [], ◌∷◌, ◌++◌, length, Option, Some, None}
use Rattle.std.proofs.lemmas.List.{length_push}
use Rattle.std.specs.List.{position_from}

-- the place of the last group that is left, before those behind
pub place_more : (rest before behind : List ℕ) (x g place : ℕ) (old new : Option ℕ) → rest ≡ before ++ x ∷ []
    → place ≡ length before → new ≡ cond (x == g) (Some place) old
    → old ≡ position_from (λ h. h == g) (length rest) behind
    → new ≡ position_from (λ h. h == g) (length before) (x ∷ behind)
place_more rest before behind x g place old new split at updated here =
    updated
    ∙ ap₂ (λ n o. cond (x == g) (Some n) o) at
    (here ∙ ap (λ n. position_from (λ h. h == g) n behind) (ap length split ∙ length_push before x))
