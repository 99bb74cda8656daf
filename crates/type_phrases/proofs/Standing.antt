-- Rows that stand in tables: a table of rows whose names differ has these rows and no others, and two tables that have
-- the same rows are one.
use Rattle.std.proofs.Common.{◌≡◌, ◌≢◌, ℕ, refl, sym, ap, ap₂, ◌∙◌, subst, List, [], ◌∷◌, ◌⊎◌, inl, inr, true, false}
use Rattle.std.specs.List.{AllByRecursion}
use Rattle.std.specs.Ordering.{ordering_reverse}
use Rattle.std.specs.Cmp.{tied_itself}
use Rattle.std.specs.Cmp.Lexicographic.{nat_list_cmp_total}
use Rattle.std.specs.FinMap.{nat_cmp-IsAntisymmetric, slice_cmp-IsAntisymmetric}
use Rattle.std.specs.FinMap.Entries.{by_order}
use Rattle.std.specs.declared.cmp.Ordering.{Ordering}
use Rattle.std.specs.declared.cmp.Ordering.TheVariants.{Less, Equal, Greater}
use Rattle.semantic_objects.specs.Symbols.{same_text, AreRising, AreApart, AreDiffering}
use Rattle.semantic_objects.specs.Tables.{Table, by_bytes, with_entry, with_all, names_of}
use Rattle.semantic_objects.proofs.Same.{text_same}

-- ---- a row that stands in others

abbrev pub Stands : {A : Type 0} → List ℕ × A → Table A → Type 0
Stands z [] = ⊥
Stands z (row ∷ rows) = (z ≡ row) ⊎ Stands z rows

abbrev pub AllStand : {A : Type 0} → Table A → Table A → Type 0
AllStand {A} zs rows = AllByRecursion (λ (z : List ℕ × A). Stands z rows) zs

pub stand_from : {A : Type 0} (xs ys : Table A) → ((z : List ℕ × A) → Stands z xs → Stands z ys) → AllStand xs ys
stand_from [] ys f = tt
stand_from (x ∷ xs) ys f = (f x (inl refl), stand_from xs ys (λ z h. f z (inr h)))

pub stands_in : {A : Type 0} (z : List ℕ × A) (xs ys : Table A) → Stands z xs → AllStand xs ys → Stands z ys
stands_in z [] ys h k = absurd h
stands_in z (x ∷ xs) ys (inl e) k = subst (λ w. Stands w ys) (sym e) k.0
stands_in z (x ∷ xs) ys (inr h) k = stands_in z xs ys h k.1

-- ---- rising names

abbrev IsUnder : {A : Type 0} → List ℕ → Table A → Type 0
IsUnder n [] = Unit {0}
IsUnder n (row ∷ rows) = (by_bytes n row.0 ≡ Less) × IsUnder n rows

abbrev pub Rise : {A : Type 0} → Table A → Type 0
Rise [] = Unit {0}
Rise (row ∷ rows) = IsUnder row.0 rows × Rise rows

same_bytes : (a b : List ℕ) → by_bytes a b ≡ Equal → a ≡ b
same_bytes a b h = slice_cmp-IsAntisymmetric nat_cmp-IsAntisymmetric a b h

not_itself : (n : List ℕ) → by_bytes n n ≡ Less → ⊥
not_itself n h = let k : Less ≡ Equal = sym h ∙ tied_itself nat_list_cmp_total n in cc

under_still : {A : Type 0} (m n : List ℕ) (rows : Table A) → by_bytes m n ≡ Less → IsUnder n rows → IsUnder m rows
under_still m n [] h k = tt
under_still m n (row ∷ rows) h k = (nat_list_cmp_total.trans m n row.0 h k.0, under_still m n rows h k.1)

under_stands : {A : Type 0} (n : List ℕ) (z : List ℕ × A) (rows : Table A) → IsUnder n rows → Stands z rows
    → by_bytes n z.0 ≡ Less
under_stands n z [] h k = absurd k
under_stands n z (row ∷ rows) h (inl e) = ap (λ y. by_bytes n y.0) e ∙ h.0
under_stands n z (row ∷ rows) h (inr k) = under_stands n z rows h.1 k

pub rise_of : {A : Type 0} (rows : Table A) → AreRising (names_of rows) → Rise rows
rise_of [] h = tt
rise_of (row ∷ []) h = (tt, tt)
rise_of (row ∷ next ∷ rows) h =
    let rest : Rise (next ∷ rows) = rise_of (next ∷ rows) h.1 in
    ((h.0, under_still row.0 next.0 rows h.0 rest.0), rest)

-- ---- tables that have the same rows

heads : {A : Type 0} (x y : List ℕ × A) (xs ys : Table A) → IsUnder x.0 xs → IsUnder y.0 ys → Stands x (y ∷ ys)
    → Stands y (x ∷ xs) → x ≡ y
heads x y xs ys h k (inl e) b = e
heads x y xs ys h k (inr a) (inl e) = sym e
heads x y xs ys h k (inr a) (inr b) =
    absurd (not_itself x.0 (nat_list_cmp_total.trans x.0 y.0 x.0 (under_stands x.0 y xs h b) (under_stands y.0 x ys k a)))

behind : {A : Type 0} (y z : List ℕ × A) (ys : Table A) → by_bytes y.0 z.0 ≡ Less → Stands z (y ∷ ys) → Stands z ys
behind y z ys h (inl e) = absurd (not_itself y.0 (ap (λ w. by_bytes y.0 w.0) (sym e) ∙ h))
behind y z ys h (inr k) = k

without_head : {A : Type 0} (y : List ℕ × A) (zs ys : Table A) → IsUnder y.0 zs → AllStand zs (y ∷ ys) → AllStand zs ys
without_head y [] ys h k = tt
without_head y (z ∷ zs) ys h k = (behind y z ys h.0 k.0, without_head y zs ys h.1 k.1)

pub one_table : {A : Type 0} (xs ys : Table A) → Rise xs → Rise ys → AllStand xs ys → AllStand ys xs → xs ≡ ys
one_table [] [] h k a b = refl
one_table [] (y ∷ ys) h k a b = absurd b.0
one_table (x ∷ xs) [] h k a b = absurd a.0
one_table {A} (x ∷ xs) (y ∷ ys) h k a b =
    let e : x ≡ y = heads x y xs ys h.0 k.0 a.0 b.0 in
    ap₂ (λ (z : List ℕ × A) zs. z ∷ zs) e
    (one_table xs ys h.1 k.1
    (without_head y xs ys (subst (λ (z : List ℕ × A). IsUnder z.0 xs) e h.0) a.1)
    (without_head x ys xs (subst (λ (z : List ℕ × A). IsUnder z.0 ys) (sym e) k.0) b.1))

-- ---- an entry that is set

turned : (a b : List ℕ) → by_bytes a b ≡ Greater → by_bytes b a ≡ Less
turned a b h = nat_list_cmp_total.antisymm b a ∙ ap ordering_reverse h

stands_set : {A : Type 0} (n : List ℕ) (x : A) (t : Table A) → Stands (n, x) (with_entry n x t)
stands_set n x [] = inl refl
stands_set {A} n x (row ∷ rows) = by_test (by_bytes n row.0) refl (stands_set n x rows)
  where
    by_test : (o : Ordering) → by_bytes n row.0 ≡ o → Stands (n, x) (with_entry n x rows)
        → Stands (n, x) (by_order o ((n, x) ∷ row ∷ rows) ((row.0, x) ∷ rows) (row ∷ with_entry n x rows))
    by_test Less e k = inl refl
    by_test Equal e k = inl (ap (λ (m : List ℕ). (m, x)) (same_bytes n row.0 e))
    by_test Greater e k = inr k

stands_still : {A : Type 0} (z : List ℕ × A) (n : List ℕ) (x : A) (t : Table A) → (n ≢ z.0) → Stands z t
    → Stands z (with_entry n x t)
stands_still z n x [] d k = absurd k
stands_still {A} z n x (row ∷ rows) d k = by_test (by_bytes n row.0) refl k (λ h. stands_still z n x rows d h)
  where
    by_test : (o : Ordering) → by_bytes n row.0 ≡ o → Stands z (row ∷ rows)
        → (Stands z rows → Stands z (with_entry n x rows))
        → Stands z (by_order o ((n, x) ∷ row ∷ rows) ((row.0, x) ∷ rows) (row ∷ with_entry n x rows))
    by_test Less e k rest = inr k
    by_test Equal e (inl f) rest = absurd (d (same_bytes n row.0 e ∙ ap (λ (y : List ℕ × A). y.0) (sym f)))
    by_test Equal e (inr h) rest = inr h
    by_test Greater e (inl f) rest = inl f
    by_test Greater e (inr h) rest = inr (rest h)

stands_back : {A : Type 0} (z : List ℕ × A) (n : List ℕ) (x : A) (t : Table A) → Stands z (with_entry n x t)
    → (z ≡ (n, x)) ⊎ Stands z t
stands_back z n x [] k = k
stands_back {A} z n x (row ∷ rows) k = by_test (by_bytes n row.0) refl (λ h. stands_back z n x rows h) k
  where
    later : (z ≡ (n, x)) ⊎ Stands z rows → (z ≡ (n, x)) ⊎ Stands z (row ∷ rows)
    later (inl e) = inl e
    later (inr h) = inr (inr h)

    by_test : (o : Ordering) → by_bytes n row.0 ≡ o
        → (Stands z (with_entry n x rows) → (z ≡ (n, x)) ⊎ Stands z rows)
        → Stands z (by_order o ((n, x) ∷ row ∷ rows) ((row.0, x) ∷ rows) (row ∷ with_entry n x rows))
        → (z ≡ (n, x)) ⊎ Stands z (row ∷ rows)
    by_test Less e rest (inl f) = inl f
    by_test Less e rest (inr h) = inr h
    by_test Equal e rest (inl f) = inl (f ∙ ap (λ (m : List ℕ). (m, x)) (sym (same_bytes n row.0 e)))
    by_test Equal e rest (inr h) = inr (inr h)
    by_test Greater e rest (inl f) = inr (inl f)
    by_test Greater e rest (inr h) = later (rest h)

under_set : {A : Type 0} (m n : List ℕ) (x : A) (t : Table A) → by_bytes m n ≡ Less → IsUnder m t
    → IsUnder m (with_entry n x t)
under_set m n x [] h k = (h, tt)
under_set {A} m n x (row ∷ rows) h k = by_test (by_bytes n row.0) (under_set m n x rows h k.1)
  where
    by_test : (o : Ordering) → IsUnder m (with_entry n x rows)
        → IsUnder m (by_order o ((n, x) ∷ row ∷ rows) ((row.0, x) ∷ rows) (row ∷ with_entry n x rows))
    by_test Less rest = (h, k)
    by_test Equal rest = k
    by_test Greater rest = (k.0, rest)

rise_set : {A : Type 0} (n : List ℕ) (x : A) (t : Table A) → Rise t → Rise (with_entry n x t)
rise_set n x [] h = (tt, tt)
rise_set {A} n x (row ∷ rows) h = by_test (by_bytes n row.0) refl (rise_set n x rows h.1)
  where
    by_test : (o : Ordering) → by_bytes n row.0 ≡ o → Rise (with_entry n x rows)
        → Rise (by_order o ((n, x) ∷ row ∷ rows) ((row.0, x) ∷ rows) (row ∷ with_entry n x rows))
    by_test Less e rest = ((e, under_still n row.0 rows e h.0), h)
    by_test Equal e rest = h
    by_test Greater e rest = (under_set row.0 n x rows (turned n row.0 e) h.0, rest)

-- ---- rows that are set one after another

pub rise_all : {A : Type 0} (rows t : Table A) → Rise t → Rise (with_all rows t)
rise_all [] t h = h
rise_all (row ∷ rows) t h = rise_all rows (with_entry row.0 row.1 t) (rise_set row.0 row.1 t h)

differs : (a b : List ℕ) → same_text a b ≡ false → b ≢ a
differs a b h e =
    let k : true ≡ false = sym (text_same a) ∙ sym (ap (λ z. same_text a z) e) ∙ h in cc

stands_after : {A : Type 0} (z : List ℕ × A) (rows t : Table A) → AreApart z.0 (names_of rows) → Stands z t
    → Stands z (with_all rows t)
stands_after z [] t h k = k
stands_after z (row ∷ rows) t h k =
    stands_after z rows (with_entry row.0 row.1 t) h.1 (stands_still z row.0 row.1 t (differs z.0 row.0 h.0) k)

pub all_stand : {A : Type 0} (rows t : Table A) → AreDiffering (names_of rows) → AllStand rows (with_all rows t)
all_stand [] t h = tt
all_stand (row ∷ rows) t h = (
  stands_after row rows (with_entry row.0 row.1 t) h.0 (stands_set row.0 row.1 t),
  all_stand rows (with_entry row.0 row.1 t) h.1,
)

pub stood : {A : Type 0} (z : List ℕ × A) (rows t : Table A) → Stands z (with_all rows t) → Stands z rows ⊎ Stands z t
stood z [] t k = inr k
stood {A} z (row ∷ rows) t k = by_rest (stood z rows (with_entry row.0 row.1 t) k)
  where
    by_entry : (z ≡ (row.0, row.1)) ⊎ Stands z t → Stands z (row ∷ rows) ⊎ Stands z t
    by_entry (inl e) = inl (inl e)
    by_entry (inr h) = inr h

    by_rest : Stands z rows ⊎ Stands z (with_entry row.0 row.1 t) → Stands z (row ∷ rows) ⊎ Stands z t
    by_rest (inl h) = inl (inr h)
    by_rest (inr h) = by_entry (stands_back z row.0 row.1 t h)

stood_alone : {A : Type 0} (z : List ℕ × A) (rows : Table A) → Stands z rows ⊎ Stands z [] → Stands z rows
stood_alone z rows (inl h) = h
stood_alone z rows (inr h) = absurd h

-- the table of rows whose names differ is any rising list of the same rows
pub table_is : {A : Type 0} (rows sorted : Table A) → AreDiffering (names_of rows) → AreRising (names_of sorted)
    → AllStand rows sorted → AllStand sorted rows → sorted ≡ with_all rows []
table_is {A} rows sorted d rising a b = one_table sorted (with_all rows []) (rise_of sorted rising) (rise_all rows [] tt)
    (stand_from sorted (with_all rows [])
    (λ z h. stands_in z rows (with_all rows []) (stands_in z sorted rows h b) (all_stand rows [] d)))
    (stand_from (with_all rows []) sorted
    (λ z h. stands_in z rows sorted (stood_alone z rows (stood z rows [] h)) a))
