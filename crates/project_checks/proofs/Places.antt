-- Places in lists: what stands at them, also behind one item more.
use Rattle.std.proofs.Common.{◌≡◌, ◌∙◌, ◌⊎◌, ℕ, zero, suc, ◌<◌, ◌≤◌, List, [], ◌∷◌, ◌++◌, length, Bool, true, false, Some, inl, inr, refl, ap, sym, subst, arith, get_or}
use Rattle.std.specs.Prelude.{nat_lt, Contains}
use Rattle.std.proofs.lemmas.Bool.Decides.{nat_tests}
use Rattle.std.proofs.lemmas.Option.{slice_get_within, slice_get-get_or, get_or_from_slice_get}
use Rattle.cm_description.specs.WellFormed.{StandsAt, AllDiffer}

-- of two numbers the first is below, or it isn't
below_by : (a b : ℕ) (t : Bool) → nat_lt a b ≡ t → (a < b) ⊎ (b ≤ a)
below_by a b true e = inl (grind (arith, nat_tests))
below_by a b false e = inr (grind (arith, nat_tests))

pub below_or : (a b : ℕ) → (a < b) ⊎ (b ≤ a)
below_or a b = below_by a b (nat_lt a b) refl

-- what is read at a place stands there
pub stands_here : {A : Type 0} (xs : List A) (k : ℕ) (x : A) → k < length xs → get_or xs k x ≡ x → StandsAt xs k x
stands_here xs k x within is = slice_get-get_or xs k x within ∙ ap Some is

pub place_of : {A : Type 0} (xs : List A) (x : A) → Contains xs x → (i : ℕ) × StandsAt xs i x
place_of xs x has = (has.0, stands_here xs has.0 x has.1 has.2)

pub stands_contained : {A : Type 0} (xs : List A) (i : ℕ) (x : A) → StandsAt xs i x → Contains xs x
stands_contained xs i x h = (i, slice_get_within xs i x h, get_or_from_slice_get xs i x x h)

-- what stands in a list with one item more stands in the list, or is that item
pub stands_push : {A : Type 0} (xs : List A) (y : A) (i : ℕ) (x : A) → StandsAt (xs ++ y ∷ []) i x
    → StandsAt xs i x ⊎ ((i ≡ length xs) × (y ≡ x))
stands_push [] y zero x h = inr (refl, cc)
stands_push [] y (suc i) x h = absurd (cc)
stands_push (z ∷ xs) y zero x h = inl h
stands_push (z ∷ xs) y (suc i) x h =
    elim (stands_push xs y i x h) [ inl before ↦ inl before | inr last ↦ inr (ap suc last.0, last.1) ]

pub stands_front : {A : Type 0} (xs ys : List A) (i : ℕ) (x : A) → StandsAt xs i x → StandsAt (xs ++ ys) i x
stands_front [] ys i x h = absurd (cc)
stands_front (z ∷ xs) ys zero x h = h
stands_front (z ∷ xs) ys (suc i) x h = stands_front xs ys i x h

-- a list of which nothing stands at two places, with a new item
pub differ_push : {A : Type 0} (xs : List A) (y : A) → AllDiffer xs → (Contains xs y → ⊥) → AllDiffer (xs ++ y ∷ [])
differ_push {A} xs y differ new i j x at other =
    elim (stands_push xs y i x at) [
      | inl one ↦ elim (stands_push xs y j x other) [
        | inl two ↦ differ i j x one two
        | inr last ↦ absurd (new (subst (Contains xs) (sym last.1) (stands_contained xs i x one)))
      ]
      | inr first ↦ elim (stands_push xs y j x other) [
        | inl two ↦ absurd (new (subst (Contains xs) (sym first.1) (stands_contained xs j x two)))
        | inr last ↦ first.0 ∙ sym last.0
      ]
    ]
