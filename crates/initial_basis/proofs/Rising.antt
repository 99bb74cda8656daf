-- Fields whose labels rise stand in a record type as they are.
use Rattle.std.proofs.Common.{◌≡◌, ℕ, zero, suc, ◌<◌, refl, sym, ap, ◌∙◌, subst, arith, List, [], ◌∷◌, length, Bool, true, false}
use Rattle.std.specs.Prelude.{◌⊎◌, IsPermutation, Result, Ok, Err, IfOk}
use Rattle.std.specs.List.{slice_index_or, Contains}
use Rattle.std.specs.declared.cmp.Ordering.{Ordering}
use Rattle.std.specs.declared.cmp.Ordering.TheVariants.{Less, Equal}
use Rattle.std.proofs.lemmas.Cmp.{nat_list_cmp_total, tied_itself}
use Rattle.std.proofs.lemmas.List.Sorted.{Contains-permutation, IsPermutation-sym}
use mathlib.Core.Logic.{inl, inr}
use Rattle.cm_base.specs.declared.fault.NoMemory.{NoMemory}
use Rattle.semantic_objects.specs.declared.part.TreeField.{TreeField}
use Rattle.semantic_objects.specs.declared.part.TreePart.TheVariants as part
use Rattle.semantic_objects.specs.Symbols.{same_text, AreRising, AreApart, AreDiffering}
use Rattle.semantic_objects.specs.Tables.{by_bytes}
use Rattle.semantic_objects.specs.Trees.{Tree}
use Rattle.semantic_objects.specs.Parts.{labels_of, record_tree, IsRecordOf, IsMadeOf}
use Rattle.semantic_objects.proofs.Same.{text_is}

not_below : (l : List ℕ) → by_bytes l l ≡ Less → ⊥
not_below l h = let k : by_bytes l l ≡ Equal = tied_itself nat_list_cmp_total l in absurd (cc)

-- ---- rising labels differ

apart : (l m : List ℕ) → by_bytes l m ≡ Less → (b : Bool) → same_text l m ≡ b → b ≡ false
apart l m h true e =
    absurd (not_below l (subst (λ z. by_bytes l z ≡ Less) (sym (text_is l m e)) h))
apart l m h false e = refl

pass_over : (l m : List ℕ) (ms : List (List ℕ)) → AreRising (l ∷ m ∷ ms) → AreRising (l ∷ ms)
pass_over l m [] h = tt
pass_over l m (n ∷ ns) h = (nat_list_cmp_total.trans l m n h.0 h.1.0, h.1.1)

rising_apart : (l : List ℕ) (ms : List (List ℕ)) → AreRising (l ∷ ms) → AreApart l ms
rising_apart l [] h = tt
rising_apart l (m ∷ ms) h = (apart l m h.0 (same_text l m) refl, rising_apart l ms (pass_over l m ms h))

rising_rest : (l : List ℕ) (ms : List (List ℕ)) → AreRising (l ∷ ms) → AreRising ms
rising_rest l [] h = tt
rising_rest l (m ∷ ms) h = h.1

pub rising_differ : (ls : List (List ℕ)) → AreRising ls → AreDiffering ls
rising_differ [] h = tt
rising_differ (l ∷ ls) h = (rising_apart l ls h, rising_differ ls (rising_rest l ls h))

-- ---- two rising lists of the same fields are one

by_place : (x : TreeField) (xs : List TreeField) (q : TreeField) (k : ℕ) → k < length (x ∷ xs)
    → slice_index_or (x ∷ xs) k q ≡ q → (x ≡ q) ⊎ Contains xs q
by_place x xs q zero b e = inl e
by_place x xs q (suc k) b e = inr (k, omega (arith, b), e)

first_or_rest : (x : TreeField) (xs : List TreeField) (q : TreeField) → Contains (x ∷ xs) q → (x ≡ q) ⊎ Contains xs q
first_or_rest x xs q c = by_place x xs q c.0 c.1 c.2

first_of : (x : TreeField) (xs : List TreeField) → Contains (x ∷ xs) x
first_of x xs = (0, omega arith, refl)

rest_of : (x : TreeField) (xs : List TreeField) (q : TreeField) → Contains xs q → Contains (x ∷ xs) q
rest_of x xs q c = let b : c.0 < length xs = c.1 in (suc c.0, omega (arith, b), c.2)

none_of : (q : TreeField) → Contains [] q → ⊥
none_of q c = let b : c.0 < 0 = c.1 in absurd (omega (arith, b))

abbrev IsBelow : TreeField → TreeField → Type 0
IsBelow x y = by_bytes x.label y.label ≡ Less

not_both : (x y : TreeField) → IsBelow x y → IsBelow y x → ⊥
not_both x y h k = not_below x.label (nat_list_cmp_total.trans x.label y.label x.label h k)

below_first : (x y : TreeField) (ys : List TreeField) (q : TreeField) → IsBelow x y → (y ≡ q) ⊎ Contains ys q
    → (Contains ys q → IsBelow y q) → IsBelow x q
below_first x y ys q h (inl e) f = subst (IsBelow x) e h
below_first x y ys q h (inr c) f = nat_list_cmp_total.trans x.label y.label q.label h (f c)

below_rest : (x : TreeField) (xs : List TreeField) (q : TreeField) → AreRising (labels_of (x ∷ xs)) → Contains xs q
    → IsBelow x q
below_rest x [] q h c = absurd (none_of q c)
below_rest x (y ∷ ys) q h c =
    below_first x y ys q h.0 (first_or_rest y ys q c) (λ d. below_rest y ys q h.1 d)

same_first : (x y : TreeField) (xs ys : List TreeField) → (x ≡ y) ⊎ Contains xs y → (y ≡ x) ⊎ Contains ys x
    → (Contains xs y → IsBelow x y) → (Contains ys x → IsBelow y x) → x ≡ y
same_first x y xs ys (inl e) d f g = e
same_first x y xs ys (inr c) (inl e) f g = sym e
same_first x y xs ys (inr c) (inr d) f g = absurd (not_both x y (f c) (g d))

in_rest : (x y : TreeField) (ys : List TreeField) (q : TreeField) → x ≡ y → IsBelow x q → (y ≡ q) ⊎ Contains ys q
    → Contains ys q
in_rest x y ys q e b (inl d) =
    absurd (not_below q.label (subst (λ z. IsBelow z q) (e ∙ d) b))
in_rest x y ys q e b (inr c) = c

pub rising_same : (xs ys : List TreeField) → AreRising (labels_of xs) → AreRising (labels_of ys)
    → ((q : TreeField) → Contains xs q → Contains ys q) → ((q : TreeField) → Contains ys q → Contains xs q) → xs ≡ ys
rising_same [] [] h k f g = refl
rising_same [] (y ∷ ys) h k f g = absurd (none_of y (g y (first_of y ys)))
rising_same (x ∷ xs) [] h k f g = absurd (none_of x (f x (first_of x xs)))
rising_same (x ∷ xs) (y ∷ ys) h k f g =
    let e : x ≡ y = same_first x y xs ys (first_or_rest x xs y (g y (first_of y ys)))
    (first_or_rest y ys x (f x (first_of x xs))) (below_rest x xs y h) (below_rest y ys x k) in
    let rest : xs ≡ ys = rising_same xs ys (rising_rest x.label (labels_of xs) h) (rising_rest y.label (labels_of ys) k)
    (λ q c. in_rest x y ys q e (below_rest x xs q h c) (first_or_rest y ys q (f q (rest_of x xs q c))))
    (λ q c. in_rest y x xs q (sym e) (below_rest y ys q k c) (first_or_rest x xs q (g q (rest_of y ys q c)))) in
    cc

pub record_made : (fields : List TreeField) (tree : Tree) → AreRising (labels_of fields) → IsRecordOf fields tree
    → tree ≡ record_tree fields
record_made fields tree h r =
    let e : fields ≡ r.sorted = rising_same fields r.sorted h r.rising
    (λ q c. Contains-permutation fields r.sorted q r.permutation c)
    (λ q c. Contains-permutation r.sorted fields q (IsPermutation-sym fields r.sorted r.permutation) c) in
    r.is ∙ ap record_tree (sym e)

pub record_made_ok : (fields : List TreeField) (r : Result Tree NoMemory) → AreRising (labels_of fields)
    → IfOk r (IsMadeOf (part.Record fields)) → IfOk r (λ tree. tree ≡ record_tree fields)
record_made_ok fields (Ok tree) h r = record_made fields tree h r
record_made_ok fields (Err fault) h r = tt
