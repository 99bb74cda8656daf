-- What stands at the places of lists, and results that follow on one another.
use Rattle.std.proofs.Common.{◌≡◌, ◌⊎◌, ◌∙◌, inl, inr, sym, ap, ap₂, refl, ℕ, zero, suc, ◌<◌, ◌≤◌, List, [], ◌∷◌, ◌++◌, length, take, Some, None, Result, Ok, Err, arith}
use Rattle.std.specs.Prelude.{Contains, slice_get, slice_set}
use Rattle.std.proofs.lemmas.Option.{slice_get-get_or}
use Rattle.cm_base.specs.Diags.{◌>>=◌}
use Rattle.cm_base.specs.declared.diag.Diag.{Diag}
use Rattle.cm_description.specs.WellFormed.{StandsAt}

-- ---- places

pub within : {A : Type 0} (xs : List A) (i : ℕ) (x : A) → StandsAt xs i x → i < length xs
within [] i x is = cc
within (y ∷ xs) zero x is = omega arith
within (y ∷ xs) (suc i) x is = let low = within xs i x is in omega (arith, low)

pub past : {A : Type 0} (xs : List A) (i : ℕ) → slice_get xs i ≡ None → length xs ≤ i
past [] i is = omega arith
past (y ∷ xs) zero is = cc
past (y ∷ xs) (suc i) is = let low = past xs i is in omega (arith, low)

-- one item stands at a place
pub one_there : {A : Type 0} (xs : List A) (i : ℕ) (x y : A) → StandsAt xs i x → StandsAt xs i y → x ≡ y
one_there xs i x y first second = let same : Some x ≡ Some y = sym first ∙ second in cc

pub set_other : {A : Type 0} (xs : List A) (i j : ℕ) (x : A) → (j ≡ i → ⊥)
    → slice_get (slice_set xs i x) j ≡ slice_get xs j
set_other [] i j x other = refl
set_other (y ∷ xs) zero zero x other = absurd (other refl)
set_other (y ∷ xs) zero (suc j) x other = refl
set_other (y ∷ xs) (suc i) zero x other = refl
set_other (y ∷ xs) (suc i) (suc j) x other = set_other xs i j x (λ same. other (ap suc same))

pub set_there : {A : Type 0} (xs : List A) (i : ℕ) (x y : A) → StandsAt (slice_set xs i x) i y → x ≡ y
set_there [] i x y is = cc
set_there (z ∷ xs) zero x y is = cc
set_there (z ∷ xs) (suc i) x y is = set_there xs i x y is

-- an item of a list with one more is one of them, or the last
pub pushed : {A : Type 0} (xs : List A) (last : A) (i : ℕ) (x : A) → StandsAt (xs ++ last ∷ []) i x
    → ((i < length xs) × StandsAt xs i x) ⊎ ((i ≡ length xs) × (last ≡ x))
pushed [] last zero x is = inr (refl, let same : last ≡ x = cc in same)
pushed [] last (suc i) x is = cc
pushed (y ∷ xs) last zero x is = inl (omega arith, is)
pushed (y ∷ xs) last (suc i) x is = elim (pushed xs last i x is) [
  | inl before ↦ let low = before.0 in inl (omega (arith, low), before.1)
  | inr end ↦ inr (ap suc end.0, end.1)
]

-- the front of a list with one more
pub taken_more : {A : Type 0} (xs : List A) (i : ℕ) (x : A) → StandsAt xs i x → take (suc i) xs ≡ take i xs ++ x ∷ []
taken_more [] i x is = cc
taken_more (y ∷ xs) zero x is = let same : y ≡ x = cc in ap (λ z. z ∷ []) same
taken_more (y ∷ xs) (suc i) x is = ap (λ l. y ∷ l) (taken_more xs i x is)

-- lists in which the same stands at each place are one
pub same_lists : {A : Type 0} (xs ys : List A) → length xs ≡ length ys
    → ((i : ℕ) (x y : A) → StandsAt xs i x → StandsAt ys i y → x ≡ y) → xs ≡ ys
same_lists [] [] long same = refl
same_lists [] (y ∷ ys) long same = absurd (omega (arith, long))
same_lists (x ∷ xs) [] long same = absurd (omega (arith, long))
same_lists (x ∷ xs) (y ∷ ys) long same =
    ap₂ (λ z l. z ∷ l) (same 0 x y refl refl)
    (same_lists xs ys (omega (arith, long)) (λ i a b first second. same (suc i) a b first second))

-- what a list contains stands at a place of it
pub there : {A : Type 0} (xs : List A) (x : A) (c : Contains xs x) → StandsAt xs c.0 x
there xs x c = slice_get-get_or xs c.0 x c.1 ∙ ap Some c.2

-- ---- results

pub after_ok : {A B : Type 0} (r : Result A Diag) (next : A → Result B Diag) (last : B) → (r >>= next) ≡ Ok last
    → (x : A) × (r ≡ Ok x) × (next x ≡ Ok last)
after_ok (Ok x) next last is = (x, refl, is)
after_ok (Err diag) next last is = cc

pub after_wrong : {A B : Type 0} (r : Result A Diag) (next : A → Result B Diag) (diag : Diag)
    → (r >>= next) ≡ Err diag → (r ≡ Err diag) ⊎ ((x : A) × (r ≡ Ok x) × (next x ≡ Err diag))
after_wrong (Ok x) next diag is = inr (x, refl, is)
after_wrong (Err other) next diag is = let same : other ≡ diag = cc in inl (ap Err same)
