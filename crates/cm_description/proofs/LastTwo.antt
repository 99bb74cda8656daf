-- The last two of a list.
use Rattle.std.proofs.Common.{◌≡◌, ◌-◌, ◌+◌, ◌≤◌, ℕ, List, [], ◌∷◌, ◌++◌, length, get_or, slice_index_or, take, drop, refl, ap, ap₂, sym, ◌∙◌, arith, length-drop}
use Rattle.std.proofs.lemmas.List.{get_or-drop, take-append-drop}
use Rattle.cm_lexer.specs.declared.token.Token.{Token}
use Rattle.cm_description.specs.Seen.{EndWith}

-- a list of two
two : (l : List Token) → length l ≡ 2 → (a : Token) × (b : Token) × (l ≡ a ∷ b ∷ [])
two [] h = absurd (omega arith)
two (a ∷ []) h = absurd (omega arith)
two (a ∷ (b ∷ [])) h = (a, b, refl)
two (a ∷ (b ∷ (c ∷ l))) h = absurd (omega arith)

-- what stands last but one, and last
pub last_two : (xs : List Token) (d : Token) → 2 ≤ length xs
    → EndWith xs (slice_index_or xs (length xs - 2) d) (slice_index_or xs (length xs - 2 + 1) d)
last_two xs d some =
    let i = length xs - 2 in
    let count : length (drop i xs) ≡ 2 = rw length-drop (omega (arith, some)) in
    let end = two (drop i xs) count in
    let plain : i + 0 ≡ i = omega arith in
    let one : get_or xs i d ≡ end.0 =
    sym (get_or-drop i xs 0 d ∙ ap (λ (n : ℕ). get_or xs n d) plain) ∙ ap (λ (l : List Token). get_or l 0 d) end.2 in
    let other : get_or xs (i + 1) d ≡ end.1 =
    sym (get_or-drop i xs 1 d) ∙ ap (λ (l : List Token). get_or l 1 d) end.2 in
    let shown : drop i xs ≡ get_or xs i d ∷ get_or xs (i + 1) d ∷ [] =
    end.2 ∙ ap₂ (λ (p q : Token). p ∷ q ∷ []) (sym one) (sym other) in
    (take i xs, sym (take-append-drop i xs) ∙ ap (λ (l : List Token). take i xs ++ l) shown)
