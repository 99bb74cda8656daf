-- Rows in rising order of names: a row behind all others is set at the end.
use Rattle.std.proofs.Common.{◌≡◌, ℕ, zero, suc, ◌+◌, List, [], ◌∷◌, ◌++◌, length, map, take, refl, sym, ap, ◌∙◌, Some, arith, slice_get}
use Rattle.std.specs.Ordering.{nat_cmp, ordering_reverse}
use Rattle.std.specs.Cmp.Lexicographic.{slice_cmp, nat_list_cmp_total}
use Rattle.std.specs.FinMap.Entries.{by_order}
use Rattle.std.specs.declared.cmp.Ordering.TheVariants.{Less, Greater}
use Rattle.semantic_objects.specs.Symbols.{AreRising}
use Rattle.semantic_objects.specs.Tables.{Table, by_bytes, with_entry, names_of}

-- a name comes after all of a list
abbrev pub IsAfter : List ℕ → List (List ℕ) → Type 0
IsAfter n [] = Unit {0}
IsAfter n (m ∷ ms) = (by_bytes n m ≡ Greater) × IsAfter n ms

tail_rising : (x : List ℕ) (xs : List (List ℕ)) → AreRising (x ∷ xs) → AreRising xs
tail_rising x [] h = tt
tail_rising x (y ∷ ys) h = h.1

some_is : {A : Type 0} (x y : A) → Some x ≡ Some y → x ≡ y
some_is x y h = cc

head_less : (x n : List ℕ) (xs : List (List ℕ)) (i : ℕ) → AreRising (x ∷ xs) → slice_get xs i ≡ Some n
    → slice_cmp nat_cmp x n ≡ Less
head_less x n [] zero h e = absurd (cc)
head_less x n [] (suc i) h e = absurd (cc)
head_less x n (y ∷ ys) zero h e = ap (slice_cmp nat_cmp x) (sym (some_is y n e)) ∙ h.0
head_less x n (y ∷ ys) (suc i) h e = nat_list_cmp_total.trans x y n h.0 (head_less y n ys i h.1 e)

turned : (x n : List ℕ) → slice_cmp nat_cmp x n ≡ Less → by_bytes n x ≡ Greater
turned x n h = nat_list_cmp_total.antisymm n x ∙ ap ordering_reverse h

pub rising_after : (xs : List (List ℕ)) (n : List ℕ) (i : ℕ) → AreRising xs → slice_get xs i ≡ Some n
    → IsAfter n (take i xs)
rising_after [] n zero h e = absurd (cc)
rising_after [] n (suc i) h e = absurd (cc)
rising_after (x ∷ xs) n zero h e = tt
rising_after (x ∷ xs) n (suc i) h e =
    (turned x n (head_less x n xs i h e), rising_after xs n i (tail_rising x xs h) e)

pub set_last : {A : Type 0} (n : List ℕ) (x : A) (rows : Table A) → IsAfter n (names_of rows)
    → with_entry n x rows ≡ rows ++ (n, x) ∷ []
set_last n x [] h = refl
set_last n x (row ∷ rows) h =
    ap (λ o. by_order o ((n, x) ∷ row ∷ rows) ((row.0, x) ∷ rows) (row ∷ with_entry n x rows)) h.0
    ∙ ap (λ z. row ∷ z) (set_last n x rows h.1)

-- ---- rows one after the other

pub taken_more : {A : Type 0} (xs : List A) (i : ℕ) (x : A) → slice_get xs i ≡ Some x
    → take (i + 1) xs ≡ take i xs ++ x ∷ []
taken_more [] zero x e = absurd (cc)
taken_more [] (suc i) x e = absurd (cc)
taken_more (y ∷ ys) zero x e = ap (λ z. z ∷ []) (some_is y x e)
taken_more (y ∷ ys) (suc i) x e =
    let k : suc i + 1 ≡ suc (i + 1) = omega arith in
    ap (λ n. take n (y ∷ ys)) k ∙ ap (λ z. y ∷ z) (taken_more ys i x e)

pub taken_all : {A : Type 0} (xs : List A) (n : ℕ) → length xs ≡ n → take n xs ≡ xs
taken_all [] zero h = refl
taken_all [] (suc n) h = refl
taken_all (x ∷ xs) zero h = absurd (omega (arith, h))
taken_all (x ∷ xs) (suc n) h = ap (λ z. x ∷ z) (taken_all xs n (let k : length xs ≡ n = omega (arith, h) in k))

pub names_taken : {A : Type 0} (n : ℕ) (rows : Table A) → names_of (take n rows) ≡ take n (names_of rows)
names_taken zero [] = refl
names_taken zero (row ∷ rows) = refl
names_taken (suc n) [] = refl
names_taken (suc n) (row ∷ rows) = ap (λ z. row.0 ∷ z) (names_taken n rows)

-- a row whose name and whose place are known
pub row_at : {P : Type 0} (rows : Table ℕ) (i : ℕ) (n : List ℕ) → slice_get (names_of rows) i ≡ Some n
    → ((p : ℕ) → slice_get (map (λ row. row.1) rows) i ≡ Some p → slice_get rows i ≡ Some (n, p) → P) → P
row_at [] zero n e f = absurd (cc)
row_at [] (suc i) n e f = absurd (cc)
row_at (row ∷ rows) zero n e f =
    let k : row.0 ≡ n = some_is row.0 n e in f row.1 refl (ap (λ m. Some (m, row.1)) k)
row_at (row ∷ rows) (suc i) n e f = row_at rows i n e f
