-- Names in the order of their places: what a stable sort by places gives is `by_place`.
use Rattle.std.proofs.Common.{◌≡◌, ◌∙◌, ◌⊎◌, inl, inr, sym, ap, ap₂, subst, refl, ℕ, zero, suc, ◌+◌, ◌<◌, ◌≤◌, Bool, true, false, not, ◌&&◌, ◌||◌, cond, ltb, eqb, List, [], ◌∷◌, length, get_or, arith}
use Rattle.std.specs.Cmp.{IsStrictWeakOrder}
use Rattle.std.specs.List.{filter}
use Rattle.std.specs.List.Sorted.{IsSortedBy, IsStableBy, ties}
use Rattle.std.proofs.lemmas.Bool.{cases_Bool, ltb-true, ltb-false, eqb-true, eq-eqb}
use Rattle.std.specs.Fn.{Called, ComparesAs}
use Rattle.std.specs.Ordering.{is_lt}
use Rattle.std.specs.declared.cmp.Ordering.{Ordering}
use Rattle.std.proofs.lemmas.Fn.{always_returns_same}
use Rattle.std.proofs.lemmas.List.Sorted.{sorted_far}
use denote.Ref.{Bor}
use denote.Param.Members.{Mut}
use Rattle.sml_trees.specs.declared.name.Name.{Name}
use Rattle.static_semantics.specs.WrittenVariables.{by_place, placed_among, stands_before}

-- ---- the order of places

first_or_both : (p q r : Bool) → p || (q && r) ≡ true → (p ≡ true) ⊎ ((q ≡ true) × (r ≡ true))
first_or_both true q r h = inl refl
first_or_both false true true h = inr (refl, refl)
first_or_both false true false h = absurd (cc)
first_or_both false false r h = absurd (cc)

neither : (p q r : Bool) → p || (q && r) ≡ false → (p ≡ false) × (q ≡ true → r ≡ false)
neither true q r h = absurd (cc)
neither false true r h = (refl, λ is. h)
neither false false r h = (refl, λ is. absurd (let isnt = is in cc))

-- what it is to stand before
before : (a b : Name) → stands_before a b ≡ true → (a.line < b.line) ⊎ ((a.line ≡ b.line) × (a.col < b.col))
before a b h =
    elim (first_or_both (ltb a.line b.line) (eqb a.line b.line) (ltb a.col b.col) h) [
      | inl less ↦ inl (ltb-true a.line b.line less)
      | inr both ↦ inr (eqb-true a.line b.line both.0, ltb-true a.col b.col both.1)
    ]

-- .. and not to
not_before : (a b : Name) → stands_before a b ≡ false → (b.line ≤ a.line) × (a.line ≡ b.line → b.col ≤ a.col)
not_before a b h =
    let both = neither (ltb a.line b.line) (eqb a.line b.line) (ltb a.col b.col) h in
    (ltb-false a.line b.line both.0, λ same. ltb-false a.col b.col (both.1 (eq-eqb a.line b.line same)))

one_way : (a b : Name) → stands_before a b ≡ true → stands_before b a ≡ false
one_way a b h =
    elim (cases_Bool (stands_before b a)) [
      | inl back ↦ absurd (clash (before a b h) (before b a back))
      | inr isnt ↦ isnt
    ]
  where
    clash : (a.line < b.line) ⊎ ((a.line ≡ b.line) × (a.col < b.col))
        → (b.line < a.line) ⊎ ((b.line ≡ a.line) × (b.col < a.col)) → ⊥
    clash (inl x) (inl y) = omega (arith, x, y)
    clash (inl x) (inr y) = let line = y.0 in omega (arith, x, line)
    clash (inr x) (inl y) = let line = x.0 in omega (arith, y, line)
    clash (inr x) (inr y) = let one = x.1 in let two = y.1 in omega (arith, one, two)

chain : (a b c : Name) → stands_before a b ≡ false → stands_before b c ≡ false → stands_before a c ≡ false
chain a b c one two =
    elim (cases_Bool (stands_before a c)) [
      | inl is ↦ absurd (clash (not_before a b one) (not_before b c two) (before a c is))
      | inr isnt ↦ isnt
    ]
  where
    clash : (b.line ≤ a.line) × (a.line ≡ b.line → b.col ≤ a.col)
        → (c.line ≤ b.line) × (b.line ≡ c.line → c.col ≤ b.col)
        → (a.line < c.line) ⊎ ((a.line ≡ c.line) × (a.col < c.col)) → ⊥
    clash x y (inl z) = let first = x.0 in let next = y.0 in omega (arith, first, next, z)
    clash x y (inr z) =
        let first = x.0 in
        let next = y.0 in
        let same = z.0 in
        let left : b.col ≤ a.col = x.1 (omega (arith, first, next, same)) in
        let right : c.col ≤ b.col = y.1 (omega (arith, first, next, same)) in
        let less = z.1 in
        omega (arith, left, right, less)

pub places_are_ordered : IsStrictWeakOrder stands_before
places_are_ordered = record { one_way = one_way; chain = chain }

not_before_itself : (a : Name) → stands_before a a ≡ false
not_before_itself a =
    elim (cases_Bool (stands_before a a)) [
      | inl is ↦ one_way a a is
      | inr isnt ↦ isnt
    ]

-- ---- lists that rise

-- none of the names stands before this one
abbrev NoneBefore : Name → List Name → Type 0
NoneBefore x [] = Unit {0}
NoneBefore x (y ∷ ys) = (stands_before y x ≡ false) × NoneBefore x ys

abbrev Rises : List Name → Type 0
Rises [] = Unit {0}
Rises (x ∷ xs) = NoneBefore x xs × Rises xs

-- names of which none stands before the first of two, of which the first doesn't stand before the second
none_further : (x y : Name) (zs : List Name) → stands_before y x ≡ false → NoneBefore y zs → NoneBefore x zs
none_further x y [] isnt none = tt
none_further x y (z ∷ zs) isnt none = (chain z y x none.0 isnt, none_further x y zs isnt none.1)

none-placed : (w x : Name) (ys : List Name) → stands_before x w ≡ false → NoneBefore w ys
    → NoneBefore w (placed_among x ys)
none-placed w x [] isnt none = (isnt, tt)
none-placed w x (y ∷ ys) isnt none = by_test (stands_before y x) (none-placed w x ys isnt none.1)
  where
    by_test : (b : Bool) → NoneBefore w (placed_among x ys) → NoneBefore w (cond b (y ∷ placed_among x ys) (x ∷ y ∷ ys))
    by_test true rest = (none.0, rest)
    by_test false rest = (isnt, none)

rises-placed : (x : Name) (ys : List Name) → Rises ys → Rises (placed_among x ys)
rises-placed x [] up = (tt, tt)
rises-placed x (y ∷ ys) up = by_test (stands_before y x) refl (rises-placed x ys up.1)
  where
    by_test : (b : Bool) → stands_before y x ≡ b → Rises (placed_among x ys)
        → Rises (cond b (y ∷ placed_among x ys) (x ∷ y ∷ ys))
    by_test true is rest = (none-placed y x ys (one_way y x is) up.0, rest)
    by_test false isnt rest = ((isnt, none_further x y ys isnt up.0), up)

rises-by_place : (xs : List Name) → Rises (by_place xs)
rises-by_place [] = tt
rises-by_place (x ∷ xs) = rises-placed x (by_place xs) (rises-by_place xs)

-- ---- names at one place stay in their order

abbrev at : Name → Name → Bool
at = ties stands_before

both_false : (p q : Bool) → not p && not q ≡ true → (p ≡ false) × (q ≡ false)
both_false true q h = absurd (cc)
both_false false true h = absurd (cc)
both_false false false h = (refl, refl)

-- one of two that don't stand at one place
swapped : (p q : Bool) (x y : Name) (rest : List Name) → (p ≡ true → q ≡ true → ⊥)
    → cond p (y ∷ cond q (x ∷ rest) rest) (cond q (x ∷ rest) rest)
    ≡ cond q (x ∷ cond p (y ∷ rest) rest) (cond p (y ∷ rest) rest)
swapped true true x y rest never = absurd (never refl refl)
swapped true false x y rest never = refl
swapped false true x y rest never = refl
swapped false false x y rest never = refl

apart : (w x y : Name) → stands_before y x ≡ true → at w y ≡ true → at w x ≡ true → ⊥
apart w x y less one two =
    let first = both_false (stands_before w y) (stands_before y w) one in
    let next = both_false (stands_before w x) (stands_before x w) two in
    let isnt : stands_before y x ≡ false = chain y w x first.1 next.0 in
    cc

filter-placed : (w x : Name) (ys : List Name) → filter (at w) (placed_among x ys) ≡ filter (at w) (x ∷ ys)
filter-placed w x [] = refl
filter-placed w x (y ∷ ys) = by_test (stands_before y x) refl (filter-placed w x ys)
  where
    by_test : (b : Bool) → stands_before y x ≡ b
        → filter (at w) (placed_among x ys) ≡ filter (at w) (x ∷ ys)
        → filter (at w) (cond b (y ∷ placed_among x ys) (x ∷ y ∷ ys)) ≡ filter (at w) (x ∷ y ∷ ys)
    by_test true is rest =
        ap (λ (l : List Name). cond (at w y) (y ∷ l) l) rest
        ∙ swapped (at w y) (at w x) x y (filter (at w) ys) (apart w x y is)
    by_test false isnt rest = refl

filter-by_place : (w : Name) (xs : List Name) → filter (at w) (by_place xs) ≡ filter (at w) xs
filter-by_place w [] = refl
filter-by_place w (x ∷ xs) =
    filter-placed w x (by_place xs) ∙ ap (λ rest. cond (at w x) (x ∷ rest) rest) (filter-by_place w xs)

-- ---- such a list is the only one

abbrev head_of : List Name → Name → Name
head_of [] other = other
head_of (x ∷ xs) other = x

at_itself : (x : Name) → at x x ≡ true
at_itself x = ap (λ b. not b && not b) (not_before_itself x)

-- a name that is kept of some isn't before one that none of them stands before
kept_none : (p : Name → Bool) (z y : Name) (rest zs : List Name) → y ∷ rest ≡ filter p zs → NoneBefore z zs
    → stands_before y z ≡ false
kept_none p z y rest [] e none = absurd (cc)
kept_none p z y rest (u ∷ us) e none = by_test (p u) e (λ left. kept_none p z y rest us left none.1)
  where
    by_test : (b : Bool) → y ∷ rest ≡ cond b (u ∷ filter p us) (filter p us)
        → (y ∷ rest ≡ filter p us → stands_before y z ≡ false) → stands_before y z ≡ false
    by_test true is more = ap (λ l. stands_before (head_of l y) z) is ∙ none.0
    by_test false is more = more is

kept_first : (y : Name) (ys : List Name) → filter (at y) (y ∷ ys) ≡ y ∷ filter (at y) ys
kept_first y ys = ap (λ b. cond b (y ∷ filter (at y) ys) (filter (at y) ys)) (at_itself y)

-- the first of one list doesn't stand before that of the other
first_not_before : (y z : Name) (ys zs : List Name) → filter (at y) (y ∷ ys) ≡ filter (at y) (z ∷ zs) → NoneBefore z zs
    → stands_before y z ≡ false
first_not_before y z ys zs e none =
    kept_none (at y) z y (filter (at y) ys) (z ∷ zs) (sym (kept_first y ys) ∙ e) (not_before_itself z, none)

-- equal firsts, and equal rests
abbrev tail_of : List Name → List Name
tail_of [] = []
tail_of (x ∷ xs) = xs

rest_kept : (b : Bool) (y : Name) (xs zs : List Name) → cond b (y ∷ xs) xs ≡ cond b (y ∷ zs) zs → xs ≡ zs
rest_kept true y xs zs e = ap tail_of e
rest_kept false y xs zs e = e

only : (ys zs : List Name) → Rises ys → Rises zs → ((w : Name) → filter (at w) ys ≡ filter (at w) zs) → ys ≡ zs
only [] [] up more same = refl
only [] (z ∷ zs) up more same = absurd (let isnt : [] ≡ z ∷ filter (at z) zs = same z ∙ kept_first z zs in cc)
only (y ∷ ys) [] up more same = absurd (let isnt : y ∷ filter (at y) ys ≡ [] = sym (kept_first y ys) ∙ same y in cc)
only (y ∷ ys) (z ∷ zs) up more same =
    let one : stands_before y z ≡ false = first_not_before y z ys zs (same y) more.0 in
    let two : stands_before z y ≡ false = first_not_before z y zs ys (sym (same z)) up.0 in
    let tied : at y z ≡ true = ap₂ (λ p q. not p && not q) one two in
    let first : y ≡ z =
    ap (λ l. head_of l y)
    (sym (kept_first y ys) ∙ same y ∙ ap (λ b. cond b (z ∷ filter (at y) zs) (filter (at y) zs)) tied) in
    ap₂ (λ (x : Name) (xs : List Name). x ∷ xs) first
    (only ys zs up.1 more.1
    (λ w. rest_kept (at w y) y (filter (at w) ys) (filter (at w) zs)
    (same w ∙ ap (λ x. cond (at w x) (x ∷ filter (at w) zs) (filter (at w) zs)) (sym first))))

-- ---- what a sort gives

sorted_tail : (x : Name) (xs : List Name) → IsSortedBy stands_before (x ∷ xs) → IsSortedBy stands_before xs
sorted_tail x xs up = λ k d low high.
    subst (λ n. stands_before (get_or (x ∷ xs) n d) (get_or xs k d) ≡ false)
    (let same : suc k + 1 ≡ suc (k + 1) = omega arith in same)
    (up (suc k) d (omega arith) (omega (arith, high)))

none_from : (x : Name) (xs : List Name)
    → ((k : ℕ) (d : Name) → k < length xs → stands_before (get_or xs k d) x ≡ false) → NoneBefore x xs
none_from x [] each = tt
none_from x (y ∷ ys) each =
    (each zero x (omega (arith)), none_from x ys (λ k d less. each (suc k) d (omega (arith, less))))

rises_from : (xs : List Name) → IsSortedBy stands_before xs → Rises xs
rises_from [] up = tt
rises_from (x ∷ xs) up = (
  none_from x xs (λ k d less. sorted_far stands_before places_are_ordered (x ∷ xs) up zero (suc k) d (omega (arith))
      (omega (arith, less))),
  rises_from xs (sorted_tail x xs up),
)

pub sorted_is_by_place : (xs ys : List Name) → IsSortedBy stands_before ys → IsStableBy stands_before xs ys
    → ys ≡ by_place xs
sorted_is_by_place xs ys up stable =
    only ys (by_place xs) (rises_from ys up) (rises-by_place xs) (λ w. stable w ∙ sym (filter-by_place w xs))

-- .. where each call of what compares says which stands before
pub sorted_by_place : {F : Type 0} {g : Mut F (Bor Name × (Bor Name × Unit {0})) Ordering} {f : F} (xs ys : List Name)
    → ((lt : Name → Name → Bool) → IsStrictWeakOrder lt → ComparesAs g lt f → IsSortedBy lt ys)
    → ((lt : Name → Name → Bool) → IsStrictWeakOrder lt → ComparesAs g lt f → IsStableBy lt xs ys)
    → ((a : Bor Name × (Bor Name × Unit {0})) (r : Ordering) (f' : F) → Called g f a r f'
    → (is_lt r ≡ stands_before a.0.now a.1.0.now) × (f' ≡ f))
    → ys ≡ by_place xs
sorted_by_place {g = g} {f = f} xs ys sorted stable each =
    let told : ComparesAs g stands_before f =
    always_returns_same g (λ a r. is_lt r ≡ stands_before a.0.now a.1.0.now) f each in
    sorted_is_by_place xs ys (sorted stands_before places_are_ordered told) (stable stands_before places_are_ordered told)
