-- Lists that are gone through from left to right.
use Rattle.std.proofs.Common.{◌≡◌, ℕ, zero, suc, ◌+◌, ◌<◌, refl, sym, ap, ap₂, ◌∙◌, List, [], ◌∷◌, length, drop, get_or, drop-cons, add-one, Option, Some, None, slice_get}

pub some_is : {A : Type 0} (x y : A) → Some x ≡ Some y → x ≡ y
some_is x y h = cc

pub none_some : {A P : Type 0} (x : A) (o : Option A) → o ≡ None → o ≡ Some x → P
none_some x o h k = absurd (cc)

pub drop_at : {A : Type 0} (xs : List A) (k : ℕ) (d : A) → k < length xs → drop k xs ≡ get_or xs k d ∷ drop (k + 1) xs
drop_at xs k d h = drop-cons xs k d h ∙ ap (λ m. get_or xs k d ∷ drop m xs) (sym (add-one k))

pub drop_item : {A : Type 0} (xs : List A) (k : ℕ) (x : A) → k < length xs → x ≡ get_or xs k x
    → drop k xs ≡ x ∷ drop (k + 1) xs
drop_item xs k x h e = drop-cons xs k x h ∙ ap₂ (λ y m. y ∷ drop m xs) (sym e) (sym (add-one k))

pub got : {A : Type 0} (xs : List A) (p : ℕ) (x d : A) → slice_get xs p ≡ Some x → get_or xs p d ≡ x
got [] zero x d h = absurd (cc)
got [] (suc p) x d h = absurd (cc)
got (y ∷ ys) zero x d h = some_is y x h
got (y ∷ ys) (suc p) x d h = got ys p x d h
