-- items of lists that are gone through
use Rattle.std.proofs.Common.{◌≡◌, ℕ, ◌+◌, ◌<◌, List, ◌∷◌, length, drop, get_or, slice_get, Some, sym, ap, ◌∙◌}
use Rattle.std.proofs.lemmas.List.{drop_more}
use Rattle.std.proofs.lemmas.Option.{slice_get-get_or}

-- what is left of a list that is gone through as the same one
pub rest_at : {X : Type 0} (xs items : List X) (i : ℕ) (d : X) → items ≡ xs → i < length items
    → drop i xs ≡ get_or items i d ∷ drop (i + 1) xs
rest_at xs items i d e h = ap (drop i) (sym e) ∙ drop_more items i d h ∙ ap (λ z. get_or items i d ∷ drop (i + 1) z) e

-- what stands there
pub item_at : {X : Type 0} (xs items : List X) (i : ℕ) (d : X) → items ≡ xs → i < length items
    → slice_get xs i ≡ Some (get_or items i d)
item_at xs items i d e h = sym (ap (λ z. slice_get z i) e) ∙ slice_get-get_or items i d h
