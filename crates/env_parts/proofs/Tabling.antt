-- The entries of a map by name are a table.
use Rattle.std.proofs.Common.{◌≡◌, ℕ, zero, suc, ◌+◌, ◌<◌, ◌≤◌, arith, length, drop, refl, sym, ap, ◌∙◌, List, [], ◌∷◌, Some, cond}
use Rattle.std.specs.Prelude.{slice_get, get_or}
use Rattle.std.specs.Ordering.{match_ordering, nat_cmp}
use Rattle.std.specs.declared.cmp.Ordering.{Ordering}
use Rattle.std.specs.declared.cmp.Ordering.TheVariants.{Less, Equal, Greater}
use Rattle.std.specs.Cmp.Lexicographic.{slice_cmp}
use Rattle.std.specs.FinMap.Entries.{by_order}
use Rattle.std.specs.List.Sorted.{IsStrictlySortedBy}
use Rattle.std.specs.Map.{lookup, keys_of}
use Rattle.std.specs.BTreeMap.{is_at, insert_entry}
use Rattle.semantic_objects.specs.Symbols.{AreRising}
use Rattle.semantic_objects.specs.Tables.{Table, entry, with_entry, with_all, names_of}

some_is : {A : Type 0} (x y : A) → Some x ≡ Some y → x ≡ y
some_is x y h = cc

-- what a map has under a name
pub lookup_is : {A : Type 0} (name : List ℕ) (t : Table A) → lookup (is_at (slice_cmp nat_cmp name)) t ≡ entry name t
lookup_is name [] = refl
lookup_is name (row ∷ rows) = ap (cond (is_at (slice_cmp nat_cmp name) row.0) (Some row.1)) (lookup_is name rows)

same_order : {A : Type 0} (o : Ordering) (x y z : A) → match_ordering o x y z ≡ by_order o x y z
same_order Less x y z = refl
same_order Equal x y z = refl
same_order Greater x y z = refl

-- a map with an entry set
pub insert_is : {A : Type 0} (name : List ℕ) (x : A) (t : Table A)
    → insert_entry (slice_cmp nat_cmp) t name x ≡ with_entry name x t
insert_is name x [] = refl
insert_is name x (row ∷ rows) =
    ap (λ z. match_ordering (slice_cmp nat_cmp name row.0) ((name, x) ∷ row ∷ rows) ((row.0, x) ∷ rows) (row ∷ z))
    (insert_is name x rows)
    ∙ same_order (slice_cmp nat_cmp name row.0) _ _ _

-- the names of a map rise
pub rising_of : {A : Type 0} (t : Table A) → IsStrictlySortedBy (slice_cmp nat_cmp) (keys_of t) → AreRising (names_of t)
unfolding IsStrictlySortedBy
rising_of [] h = tt
rising_of (row ∷ []) h = tt
rising_of (row ∷ next ∷ rows) h = (h.0.0, rising_of (next ∷ rows) h.1)

-- the next row is set
pub set_next : {A : Type 0} (name n : List ℕ) (x : A) (rows rest old new all : Table A) → rows ≡ (name, x) ∷ rest
    → new ≡ insert_entry (slice_cmp nat_cmp) old n x → n ≡ name → with_all rows old ≡ all → with_all rest new ≡ all
set_next name n x rows rest old new all e h i k =
    ap (with_all rest) (h ∙ insert_is n x old ∙ ap (λ z. with_entry z x old) i)
    ∙ sym (ap (λ z. with_all z old) e) ∙ k

-- what stands at a place
pub got : {A : Type 0} (xs : List A) (p : ℕ) (x d : A) → Some x ≡ slice_get xs p → get_or xs p d ≡ x
got [] p x d h = absurd (cc)
got (y ∷ ys) zero x d h = sym (some_is x y h)
got (y ∷ ys) (suc p) x d h = got ys p x d h

-- a list from a place on
pub drop_next : {A : Type 0} (k : ℕ) (xs : List A) (d : A) → k < length xs
    → drop k xs ≡ get_or xs k d ∷ drop (k + 1) xs
drop_next zero [] d h = absurd (omega (arith, h))
drop_next zero (x ∷ xs) d h = refl
drop_next (suc k) [] d h = absurd (omega (arith, h))
drop_next (suc k) (x ∷ xs) d h =
    let e : suc k + 1 ≡ suc (k + 1) = omega arith in
    drop_next k xs d (omega (arith, h)) ∙ ap (λ n. get_or xs k d ∷ drop n (x ∷ xs)) (sym e)

pub drop_past : {A : Type 0} (k : ℕ) (xs : List A) → length xs ≤ k → drop k xs ≡ []
drop_past zero [] h = refl
drop_past zero (x ∷ xs) h = absurd (omega (arith, h))
drop_past (suc k) [] h = refl
drop_past (suc k) (x ∷ xs) h = drop_past k xs (omega (arith, h))
