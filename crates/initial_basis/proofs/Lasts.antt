-- The last of some words.
use Rattle.std.proofs.Common.{◌≡◌, ℕ, suc, ◌-◌, subst, ◌∙◌, arith, List, [], ◌∷◌, length}
use Rattle.std.specs.Prelude.{Result, Ok, Err, IfOk, Some, slice_get}
use Rattle.cm_base.specs.declared.fault.NoMemory.{NoMemory}
use Rattle.initial_basis.specs.Basis.{last_word}

-- what stands at the last place
pub last_there : (words : List (List ℕ)) (word : List ℕ) → slice_get words (length words - 1) ≡ Some word
    → word ≡ last_word words
last_there [] word h = absurd (cc)
last_there (first ∷ []) word h = cc
last_there (first ∷ next ∷ words) word h =
    let e : length (first ∷ next ∷ words) - 1 ≡ suc (length words) = omega arith in
    let f : length words ≡ length (next ∷ words) - 1 = omega arith in
    let k : slice_get (next ∷ words) (length words) ≡ Some word =
    subst (λ n. slice_get (first ∷ next ∷ words) n ≡ Some word) e h in
    last_there (next ∷ words) word (subst (λ n. slice_get (next ∷ words) n ≡ Some word) f k)

pub last_copied : (words : List (List ℕ)) (at : ℕ) (word : List ℕ) (r : Result (List ℕ) NoMemory) → at ≡ length words - 1
    → slice_get words at ≡ Some word → IfOk r (λ copy. copy ≡ word) → IfOk r (λ last. last ≡ last_word words)
last_copied words at word (Ok copy) e h k = k ∙ last_there words word (subst (λ n. slice_get words n ≡ Some word) e h)
last_copied words at word (Err fault) e h k = tt
