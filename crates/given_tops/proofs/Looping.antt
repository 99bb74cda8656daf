-- Items of a list that are gone through one after another.
use Rattle.std.proofs.Common.{◌≡◌, ℕ, ◌+◌, ◌<◌, ◌≤◌, refl, sym, ap, ◌∙◌, subst, drop, List, [], ◌∷◌, length, get_or}
use Rattle.env_parts.proofs.Tabling.{drop_next, drop_past}

-- what is left before an item is looked at
pub left_at : {A : Type 0} (xs items : List A) (i : ℕ) (x : A) → items ≡ xs → i < length items → x ≡ get_or items i x
    → drop i xs ≡ x ∷ drop (i + 1) xs
left_at xs items i x e l h =
    drop_next i xs x (subst (λ z. i < length z) e l)
    ∙ ap (λ z. z ∷ drop (i + 1) xs) (sym (h ∙ ap (λ z. get_or z i x) e))

pub item_left : {A : Type 0} (d : A) (xs items : List A) (i : ℕ) → items ≡ xs → i < length items
    → drop i xs ≡ get_or items i d ∷ drop (i + 1) xs
item_left d xs items i e l =
    drop_next i xs d (subst (λ z. i < length z) e l)
    ∙ ap (λ z. get_or z i d ∷ drop (i + 1) xs) (sym e)

-- .. and when all were
pub none_left : {A : Type 0} (xs items : List A) (i : ℕ) → items ≡ xs → length items ≤ i → drop i xs ≡ []
none_left xs items i e l = drop_past i xs (subst (λ z. length z ≤ i) e l)
