-- Fields that were sorted by their labels, of which no two are one, rise.
use Rattle.std.proofs.Common.{◌≡◌, ℕ, suc, ◌+◌, ◌≤◌, refl, sym, ap, ◌∙◌, subst, arith, List, [], ◌∷◌, get_or, Bool, true, false, cond}
use Rattle.std.specs.Prelude.{IsPermutation}
use Rattle.std.specs.Cmp.{IsStrictWeakOrder}
use Rattle.std.specs.Cmp.Lexicographic.{nat_list_cmp_total}
use Rattle.std.specs.FinMap.{nat_cmp-IsAntisymmetric, slice_cmp-IsAntisymmetric}
use Rattle.std.specs.Fn.{Called, ComparesAs}
use Rattle.std.specs.Prelude.{sum_by}
use Rattle.std.specs.List.Sorted.{IsSortedBy}
use Rattle.std.specs.Ordering.{is_lt, ordering_reverse}
use Rattle.std.specs.declared.cmp.Ordering.{Ordering}
use Rattle.std.specs.declared.cmp.Ordering.TheVariants.{Less, Equal, Greater}
use Rattle.std.proofs.lemmas.Fn.{always_returns_same}
use Rattle.std.proofs.lemmas.List.MinMax.{ranks_by}
use Rattle.std.proofs.lemmas.List.Sorted.{sum_by-IsPermutation}
use Rattle.std.proofs.lemmas.List.Sums.{sum_by-cons}
use denote.Ref.{Bor}
use denote.Param.Members.{Mut}
use Rattle.semantic_objects.specs.declared.part.TreeField.{TreeField}
use Rattle.semantic_objects.specs.Symbols.{same_text, AreRising, AreApart, AreDiffering}
use Rattle.semantic_objects.specs.Tables.{by_bytes}
use Rattle.semantic_objects.specs.Parts.{labels_of}
use Rattle.semantic_objects.proofs.Same.{text_is, text_same}

abbrev label_less : TreeField → TreeField → Bool
label_less x y = is_lt (by_bytes x.label y.label)

-- what a sort by labels ensures
pub sorted_by_label : {F : Type 0} {g : Mut F (Bor TreeField × (Bor TreeField × Unit {0})) Ordering} {f : F}
    (xs : List TreeField)
    → ((lt : TreeField → TreeField → Bool) → IsStrictWeakOrder lt → ComparesAs g lt f → IsSortedBy lt xs)
    → ((a : Bor TreeField × (Bor TreeField × Unit {0})) (r : Ordering) (f' : F) → Called g f a r f'
    → (r ≡ by_bytes a.0.now.label a.1.0.now.label) × (f' ≡ f)) → IsSortedBy label_less xs
sorted_by_label {g = g} {f = f} xs sorted each =
    sorted label_less (ranks_by nat_list_cmp_total (λ (x : TreeField). x.label))
    (always_returns_same g (λ a r. is_lt r ≡ label_less a.0.now a.1.0.now) f
    (λ a r f' k. (ap is_lt (each a r f' k).0, (each a r f' k).1)))

-- how often a label stands in fields
abbrev is_label : List ℕ → TreeField → ℕ
is_label l field = cond (same_text l field.label) 1 0

abbrev times : List ℕ → List TreeField → ℕ
times l fields = sum_by (is_label l) fields

times_cons : (l : List ℕ) (x : TreeField) (xs : List TreeField) → times l (x ∷ xs) ≡ is_label l x + times l xs
times_cons l x xs = sum_by-cons (is_label l) x xs

apart_times : (l : List ℕ) (xs : List TreeField) → AreApart l (labels_of xs) → times l xs ≡ 0
apart_times l [] h = refl
apart_times l (x ∷ xs) h =
    let k : times l (x ∷ xs) ≡ is_label l x + times l xs = times_cons l x xs in
    let here : is_label l x ≡ 0 = ap (λ b. cond b 1 0) h.0 in
    let rest : times l xs ≡ 0 = apart_times l xs h.1 in
    omega (arith, k, here, rest)

once_more : (l : List ℕ) (x : TreeField) (xs : List TreeField) (b : Bool) → same_text l x.label ≡ b
    → AreApart x.label (labels_of xs) → times l xs ≤ 1 → times l (x ∷ xs) ≤ 1
once_more l x xs true e apart h =
    let k : times l (x ∷ xs) ≡ is_label l x + times l xs = times_cons l x xs in
    let here : is_label l x ≡ 1 = ap (λ b. cond b 1 0) e in
    let rest : times l xs ≡ 0 =
    subst (λ z. times z xs ≡ 0) (sym (text_is l x.label e)) (apart_times x.label xs apart) in
    omega (arith, k, here, rest)
once_more l x xs false e apart h =
    let k : times l (x ∷ xs) ≡ is_label l x + times l xs = times_cons l x xs in
    let here : is_label l x ≡ 0 = ap (λ b. cond b 1 0) e in
    omega (arith, k, here, h)

differing_times : (xs : List TreeField) → AreDiffering (labels_of xs) → (l : List ℕ) → times l xs ≤ 1
differing_times [] h l = omega arith
differing_times (x ∷ xs) h l =
    once_more l x xs (same_text l x.label) refl h.0 (differing_times xs h.1 l)

-- of two labels that differ, the one that isn't greater is less
less_as : (l m : List ℕ) (o : Ordering) → by_bytes m l ≡ o → is_lt o ≡ false → same_text l m ≡ false
    → by_bytes l m ≡ Less
less_as l m Less e h d = absurd (cc)
less_as l m Equal e h d =
    let k : m ≡ l = slice_cmp-IsAntisymmetric nat_cmp-IsAntisymmetric m l e in
    let t : true ≡ false = sym (subst (λ z. same_text l z ≡ true) (sym k) (text_same l)) ∙ d in absurd (cc)
less_as l m Greater e h d = nat_list_cmp_total.antisymm l m ∙ ap ordering_reverse e

not_both : (x y : TreeField) (xs : List TreeField) (b : Bool) → same_text x.label y.label ≡ b
    → times x.label (x ∷ y ∷ xs) ≤ 1 → b ≡ false
not_both x y xs true e h =
    let j : times x.label (x ∷ y ∷ xs) ≡ is_label x.label x + times x.label (y ∷ xs) = times_cons x.label x (y ∷ xs) in
    let k : times x.label (y ∷ xs) ≡ is_label x.label y + times x.label xs = times_cons x.label y xs in
    let this : is_label x.label x ≡ 1 = ap (λ b. cond b 1 0) (text_same x.label) in
    let that : is_label x.label y ≡ 1 = ap (λ b. cond b 1 0) e in
    absurd (omega (arith, h, j, k, this, that))
not_both x y xs false e h = refl

sorted_tail : (x : TreeField) (xs : List TreeField) → IsSortedBy label_less (x ∷ xs) → IsSortedBy label_less xs
sorted_tail x xs h k d from below =
    let e : k + 1 ≡ suc k = omega arith in
    let f : suc k + 1 ≡ suc (k + 1) = omega arith in
    subst (λ z. label_less (get_or (x ∷ xs) z d) (get_or xs k d) ≡ false) f
    (h (suc k) d (omega arith) (omega (arith, below)))

rises : (xs : List TreeField) → IsSortedBy label_less xs → ((l : List ℕ) → times l xs ≤ 1) → AreRising (labels_of xs)
rises [] h once = tt
rises (x ∷ []) h once = tt
rises (x ∷ y ∷ xs) h once = (
  less_as x.label y.label (by_bytes y.label x.label) refl (h 0 x (omega arith) (omega arith))
      (not_both x y xs (same_text x.label y.label) refl (once x.label)),
  rises (y ∷ xs) (sorted_tail x (y ∷ xs) h)
      (λ l. let k : times l (x ∷ y ∷ xs) ≡ is_label l x + times l (y ∷ xs) = times_cons l x (y ∷ xs) in
      let o : times l (x ∷ y ∷ xs) ≤ 1 = once l in omega (arith, k, o)),
)

pub sorted_rises : (xs ys : List TreeField) → AreDiffering (labels_of xs) → IsPermutation xs ys
    → IsSortedBy label_less ys → AreRising (labels_of ys)
sorted_rises xs ys differing moved sorted = rises ys sorted
    (λ l. subst (λ z. z ≤ 1) (sym (sum_by-IsPermutation (is_label l) xs ys moved)) (differing_times xs differing l))
