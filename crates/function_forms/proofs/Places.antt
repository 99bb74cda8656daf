-- What stands at a place of a list.
use Rattle.std.proofs.Common.{◌≡◌, ℕ, zero, suc, ◌+◌, ◌<◌, refl, sym, ap, ◌∙◌, List, [], ◌∷◌, ◌++◌, length, map, drop, get_or, drop-cons, add-one, Some, arith, slice_get}

some_is : {A : Type 0} (x y : A) → Some x ≡ Some y → x ≡ y
some_is x y h = cc

pub drop_at : {A : Type 0} (xs : List A) (k : ℕ) (d : A) → k < length xs → drop k xs ≡ get_or xs k d ∷ drop (k + 1) xs
drop_at xs k d h = drop-cons xs k d h ∙ ap (λ m. get_or xs k d ∷ drop m xs) (sym (add-one k))

pub got_map : {A B : Type 0} (f : A → B) (xs : List A) (p : ℕ) (y : B) (d : A) → slice_get (map f xs) p ≡ Some y
    → f (get_or xs p d) ≡ y
got_map f [] zero y d h = absurd (cc)
got_map f [] (suc p) y d h = absurd (cc)
got_map f (x ∷ xs) zero y d h = some_is (f x) y h
got_map f (x ∷ xs) (suc p) y d h = got_map f xs p y d h

pub last_got : {A : Type 0} (xs front : List A) (x d : A) (n : ℕ) → xs ≡ front ++ x ∷ [] → n ≡ length xs
    → (k : ℕ) → k + 1 ≡ n → get_or xs k d ≡ x
last_got xs [] x d n e h zero k = ap (λ z. get_or z zero d) e
last_got xs [] x d n e h (suc m) k =
    let l : length xs ≡ 1 = ap length e in absurd (omega (arith, h, k, l))
last_got [] (y ∷ ys) x d n e h k j = absurd (cc)
last_got (z ∷ zs) (y ∷ ys) x d n e h zero j =
    let i : zs ≡ ys ++ x ∷ [] = cc in
    let l : length zs ≡ length (ys ++ x ∷ []) = ap length i in
    let s : length (ys ++ x ∷ []) ≡ suc (length ys) = last_one ys x in absurd (omega (arith, h, j, l, s))
  where
    last_one : {A : Type 0} (xs : List A) (x : A) → length (xs ++ x ∷ []) ≡ suc (length xs)
    last_one [] x = refl
    last_one (y ∷ xs) x = ap suc (last_one xs x)
last_got (z ∷ zs) (y ∷ ys) x d n e h (suc m) j =
    let i : zs ≡ ys ++ x ∷ [] = cc in last_got zs ys x d (length zs) i refl m (omega (arith, h, j))
