-- fields with differing labels rise once they are sorted by their labels
use Rattle.std.proofs.Common.{◌≡◌, ℕ, suc, ◌+◌, ◌≤◌, refl, sym, ap, ◌∙◌, subst, arith, List, [], ◌∷◌, get_or, Bool, true, false, cond}
use Rattle.std.specs.Prelude.{IsPermutation, sum_by}
use Rattle.std.specs.Cmp.{IsStrictWeakOrder}
use Rattle.std.specs.Cmp.Lexicographic.{nat_list_cmp_total, slice_cmp}
use Rattle.std.specs.FinMap.{nat_cmp-IsAntisymmetric, slice_cmp-IsAntisymmetric}
use Rattle.std.specs.Fn.{Called, ComparesAs}
use Rattle.std.specs.List.Sorted.{IsSortedBy}
use Rattle.std.specs.Ordering.{nat_cmp, is_lt, ordering_reverse}
use Rattle.std.specs.declared.cmp.Ordering.{Ordering}
use Rattle.std.specs.declared.cmp.Ordering.TheVariants.{Less, Equal, Greater}
use Rattle.std.proofs.lemmas.Fn.{always_returns_same}
use Rattle.std.proofs.lemmas.List.MinMax.{ranks_by}
use Rattle.std.proofs.lemmas.List.Sorted.{sum_by-IsPermutation}
use Rattle.std.proofs.lemmas.List.Sums.{sum_by-cons}
use denote.Ref.{Bor}
use denote.Param.Members.{Mut}
use Rattle.semantic_objects.specs.Symbols.{same_text, AreRising, AreApart, AreDiffering}
use Rattle.semantic_objects.proofs.Same.{text_is, text_same}
use Rattle.sml_types.specs.declared.look.LookField.{LookField}
use Rattle.sml_types.specs.Looking.{labels_of}

abbrev order_of : List ℕ → List ℕ → Ordering
order_of = slice_cmp nat_cmp

abbrev comes_before : LookField → LookField → Bool
comes_before x y = is_lt (order_of x.label y.label)

pub sorted_by_label : {F : Type 0} {g : Mut F (Bor LookField × (Bor LookField × Unit {0})) Ordering} {f : F}
    (xs : List LookField)
    → ((lt : LookField → LookField → Bool) → IsStrictWeakOrder lt → ComparesAs g lt f → IsSortedBy lt xs)
    → ((a : Bor LookField × (Bor LookField × Unit {0})) (r : Ordering) (f' : F) → Called g f a r f'
    → (r ≡ order_of a.0.now.label a.1.0.now.label) × (f' ≡ f)) → IsSortedBy comes_before xs
sorted_by_label {g = g} {f = f} xs sorted each =
    sorted comes_before (ranks_by nat_list_cmp_total (λ (x : LookField). x.label))
    (always_returns_same g (λ a r. is_lt r ≡ comes_before a.0.now a.1.0.now) f
    (λ a r f' k. (ap is_lt (each a r f' k).0, (each a r f' k).1)))

-- the occurrences of a label
abbrev here : List ℕ → LookField → ℕ
here l x = cond (same_text l x.label) 1 0

abbrev number_of : List ℕ → List LookField → ℕ
number_of l xs = sum_by (here l) xs

more_by : (l : List ℕ) (x : LookField) (xs : List LookField) → number_of l (x ∷ xs) ≡ here l x + number_of l xs
more_by l x xs = sum_by-cons (here l) x xs

none_apart : (l : List ℕ) (xs : List LookField) → AreApart l (labels_of xs) → number_of l xs ≡ 0
none_apart l [] h = refl
none_apart l (x ∷ xs) h =
    let k : number_of l (x ∷ xs) ≡ here l x + number_of l xs = more_by l x xs in
    let a : here l x ≡ 0 = ap (λ b. cond b 1 0) h.0 in
    let b : number_of l xs ≡ 0 = none_apart l xs h.1 in
    omega (arith, k, a, b)

one_by : (l : List ℕ) (x : LookField) (xs : List LookField) (b : Bool) → same_text l x.label ≡ b
    → AreApart x.label (labels_of xs) → number_of l xs ≤ 1 → number_of l (x ∷ xs) ≤ 1
one_by l x xs true e apart h =
    let k : number_of l (x ∷ xs) ≡ here l x + number_of l xs = more_by l x xs in
    let a : here l x ≡ 1 = ap (λ b. cond b 1 0) e in
    let b : number_of l xs ≡ 0 = subst (λ z. number_of z xs ≡ 0) (sym (text_is l x.label e)) (none_apart x.label xs apart) in
    omega (arith, k, a, b)
one_by l x xs false e apart h =
    let k : number_of l (x ∷ xs) ≡ here l x + number_of l xs = more_by l x xs in
    let a : here l x ≡ 0 = ap (λ b. cond b 1 0) e in
    omega (arith, k, a, h)

at_most_one : (xs : List LookField) → AreDiffering (labels_of xs) → (l : List ℕ) → number_of l xs ≤ 1
at_most_one [] h l = omega arith
at_most_one (x ∷ xs) h l = one_by l x xs (same_text l x.label) refl h.0 (at_most_one xs h.1 l)

-- of two labels that differ, one that isn't greater is less
is_less : (l m : List ℕ) (o : Ordering) → order_of m l ≡ o → is_lt o ≡ false → same_text l m ≡ false → order_of l m ≡ Less
is_less l m Less e h d = absurd (cc)
is_less l m Equal e h d =
    let k : m ≡ l = slice_cmp-IsAntisymmetric nat_cmp-IsAntisymmetric m l e in
    let t : true ≡ false = sym (subst (λ z. same_text l z ≡ true) (sym k) (text_same l)) ∙ d in absurd (cc)
is_less l m Greater e h d = nat_list_cmp_total.antisymm l m ∙ ap ordering_reverse e

two_differ : (x y : LookField) (xs : List LookField) (b : Bool) → same_text x.label y.label ≡ b
    → number_of x.label (x ∷ y ∷ xs) ≤ 1 → b ≡ false
two_differ x y xs true e h =
    let j : number_of x.label (x ∷ y ∷ xs) ≡ here x.label x + number_of x.label (y ∷ xs) = more_by x.label x (y ∷ xs) in
    let k : number_of x.label (y ∷ xs) ≡ here x.label y + number_of x.label xs = more_by x.label y xs in
    let a : here x.label x ≡ 1 = ap (λ b. cond b 1 0) (text_same x.label) in
    let b : here x.label y ≡ 1 = ap (λ b. cond b 1 0) e in
    absurd (omega (arith, h, j, k, a, b))
two_differ x y xs false e h = refl

rest_sorted : (x : LookField) (xs : List LookField) → IsSortedBy comes_before (x ∷ xs) → IsSortedBy comes_before xs
rest_sorted x xs h k d from below =
    let e : k + 1 ≡ suc k = omega arith in
    let f : suc k + 1 ≡ suc (k + 1) = omega arith in
    subst (λ z. comes_before (get_or (x ∷ xs) z d) (get_or xs k d) ≡ false) f
    (h (suc k) d (omega arith) (omega (arith, below)))

rises : (xs : List LookField) → IsSortedBy comes_before xs → ((l : List ℕ) → number_of l xs ≤ 1) → AreRising (labels_of xs)
rises [] h once = tt
rises (x ∷ []) h once = tt
rises (x ∷ y ∷ xs) h once = (
  is_less x.label y.label (order_of y.label x.label) refl (h 0 x (omega arith) (omega arith))
      (two_differ x y xs (same_text x.label y.label) refl (once x.label)),
  rises (y ∷ xs) (rest_sorted x (y ∷ xs) h)
      (λ l. let k : number_of l (x ∷ y ∷ xs) ≡ here l x + number_of l (y ∷ xs) = more_by l x (y ∷ xs) in
      let o : number_of l (x ∷ y ∷ xs) ≤ 1 = once l in omega (arith, k, o)),
)

pub sorted_rises : (xs ys : List LookField) → AreDiffering (labels_of xs) → IsPermutation xs ys
    → IsSortedBy comes_before ys → AreRising (labels_of ys)
sorted_rises xs ys differing moved sorted = rises ys sorted
    (λ l. subst (λ z. z ≤ 1) (sym (sum_by-IsPermutation (here l) xs ys moved)) (at_most_one xs differing l))
