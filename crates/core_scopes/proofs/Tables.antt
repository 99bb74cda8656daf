-- Tables after rows: what stands under a name, rows set at once and one after another, and a table as the rows of its
-- names.
use Rattle.std.proofs.Common.{◌≡◌, ◌≢◌, ℕ, refl, sym, ap, ◌∙◌, subst, List, [], ◌∷◌, ◌++◌, Option, Some, None, Bool, true, false, ◌&&◌, cond, append_assoc}
use Rattle.std.specs.Option.{option_map}
use Rattle.std.specs.Ordering.{is_eq, is_lt, ordering_reverse}
use Rattle.std.specs.Cmp.{tied_itself, alike_right}
use Rattle.std.specs.Cmp.Lexicographic.{nat_list_cmp_total, nat_list_eq_equiv, same_text}
use Rattle.std.specs.FinMap.{nat_cmp-IsAntisymmetric, slice_cmp-IsAntisymmetric}
use Rattle.std.specs.FinMap.Entries.{by_order, is_sorted, below_all}
use Rattle.std.specs.declared.cmp.Ordering.{Ordering}
use Rattle.std.specs.declared.cmp.Ordering.TheVariants.{Less, Equal, Greater}
use Rattle.semantic_objects.specs.Symbols.{AreRising}
use Rattle.semantic_objects.specs.Tables.{Table, IsTable, by_bytes, entry, with_entry, with_all, names_of}
use Rattle.semantic_objects.proofs.Promised.{sets_entries}
use Rattle.sml_modules.specs.Items.{map_rows}
use Rattle.name_trails.specs.Trails.{Rows, same, entry_after, last_entry}

-- ---- what stands under a name after rows

-- two names aren't one
apart : (a b : List ℕ) → same a b ≡ false → a ≢ b
apart a b h e =
    let k : same a a ≡ true = nat_list_eq_equiv.refl a in
    let l : same a a ≡ false = subst (λ z. same a z ≡ false) (sym e) h in
    absurd (cc)

entry_set : {A : Type 0} (n m : List ℕ) (x : A) (t : Table A)
    → entry m (with_entry n x t) ≡ cond (same n m) (Some x) (entry m t)
entry_set {A} n m x t = by_test (same n m) refl
  where
    by_test : (b : Bool) → same n m ≡ b → entry m (with_entry n x t) ≡ cond b (Some x) (entry m t)
    by_test true e =
        subst (λ z. entry z (with_entry n x t) ≡ Some x) (same_text n m (sym e)) ((sets_entries A).here n x t)
    by_test false e = (sets_entries A).others n m x t (apart n m e)

entry_all : {A : Type 0} (name : List ℕ) (rows t : Table A)
    → entry name (with_all rows t) ≡ entry_after (entry name t) rows name
entry_all name [] t = refl
entry_all {A} name (row ∷ rows) t =
    entry_all name rows (with_entry row.0 row.1 t)
    ∙ ap (λ (held : Option A). entry_after held rows name) (entry_set row.0 name row.1 t)

-- what was there where nothing else is
abbrev pub or_held : {A : Type 0} → Option A → Option A → Option A
or_held None held = held
or_held (Some x) held = Some x

pub entry_or : {A : Type 0} (held : Option A) (rows : Rows A) (name : List ℕ)
    → entry_after held rows name ≡ or_held (entry_after None rows name) held
entry_or held [] name = refl
entry_or {A} held (row ∷ rows) name = by_test (same row.0 name) (λ o. entry_or o rows name)
  where
    again : (o : Option A) → or_held o (Some row.1) ≡ or_held (or_held o (Some row.1)) held
    again None = refl
    again (Some x) = refl

    by_test : (b : Bool) → ((o : Option A) → entry_after o rows name ≡ or_held (entry_after None rows name) o)
        → entry_after (cond b (Some row.1) held) rows name
        ≡ or_held (entry_after (cond b (Some row.1) None) rows name) held
    by_test true rest =
        rest (Some row.1) ∙ again (entry_after None rows name)
        ∙ ap (λ (o : Option A). or_held o held) (sym (rest (Some row.1)))
    by_test false rest = rest held

map_after : {A B : Type 0} (f : A → B) (held : Option A) (rows : Rows A) (name : List ℕ)
    → entry_after (option_map f held) (map_rows f rows) name ≡ option_map f (entry_after held rows name)
map_after f held [] name = refl
map_after {A} {B} f held (row ∷ rows) name =
    ap (λ (o : Option B). entry_after o (map_rows f rows) name) (by_test (same row.0 name))
    ∙ map_after f (cond (same row.0 name) (Some row.1) held) rows name
  where
    by_test : (b : Bool) → cond b (Some (f row.1)) (option_map f held) ≡ option_map f (cond b (Some row.1) held)
    by_test true = refl
    by_test false = refl

-- what stands under a name in a table after rows
pub entry_over : {A B : Type 0} (f : A → B) (rows : Rows A) (t : Table B) (name : List ℕ)
    → entry name (with_all (map_rows f rows) t) ≡ or_held (option_map f (last_entry rows name)) (entry name t)
unfolding last_entry
entry_over {A} {B} f rows t name =
    entry_all name (map_rows f rows) t ∙ entry_or (entry name t) (map_rows f rows) name
    ∙ ap (λ (o : Option B). or_held o (entry name t)) (map_after f None rows name)

pub entry_under : {A : Type 0} (rows : Rows A) (t : Table A) (name : List ℕ)
    → entry name (with_all rows t) ≡ or_held (last_entry rows name) (entry name t)
unfolding last_entry
entry_under {A} rows t name = entry_all name rows t ∙ entry_or (entry name t) rows name

pub all_append : {A : Type 0} (front back t : Table A) → with_all (front ++ back) t ≡ with_all back (with_all front t)
all_append [] back t = refl
all_append (row ∷ rows) back t = all_append rows back (with_entry row.0 row.1 t)

-- ---- rows at once, and one after another

turned : (a b : List ℕ) → by_bytes a b ≡ Less → by_bytes b a ≡ Greater
turned a b h = nat_list_cmp_total.antisymm b a ∙ ap ordering_reverse h

-- a smaller name and a greater one
set_both : {A : Type 0} (a b : List ℕ) (x y : A) (t : Table A) → by_bytes a b ≡ Less
    → with_entry a x (with_entry b y t) ≡ with_entry b y (with_entry a x t)
set_both a b x y [] h =
    ap (λ o. by_order o ((a, x) ∷ (b, y) ∷ []) ((b, x) ∷ []) ((b, y) ∷ (a, x) ∷ [])) h
    ∙ sym (ap (λ o. by_order o ((b, y) ∷ (a, x) ∷ []) ((a, y) ∷ []) ((a, x) ∷ (b, y) ∷ [])) (turned a b h))
set_both {A} a b x y (row ∷ rows) h =
    by_greater (by_bytes b row.0) (by_bytes a row.0) refl refl (set_both a b x y rows h)
  where
    -- a greater name behind the smaller one
    behind : (rest : Table A) → with_entry b y ((a, x) ∷ rest) ≡ (a, x) ∷ with_entry b y rest
    behind rest =
        ap (λ o. by_order o ((b, y) ∷ (a, x) ∷ rest) ((a, y) ∷ rest) ((a, x) ∷ with_entry b y rest)) (turned a b h)

    before : (rest : Table A) → with_entry a x ((b, y) ∷ rest) ≡ (a, x) ∷ (b, y) ∷ rest
    before rest =
        ap (λ o. by_order o ((a, x) ∷ (b, y) ∷ rest) ((b, x) ∷ rest) ((b, y) ∷ with_entry a x rest)) h

    set_a : (o : Ordering) (z : A) (rest : Table A) → by_bytes a row.0 ≡ o
        → with_entry a x ((row.0, z) ∷ rest)
        ≡ by_order o ((a, x) ∷ (row.0, z) ∷ rest) ((row.0, x) ∷ rest) ((row.0, z) ∷ with_entry a x rest)
    set_a o z rest e =
        ap (λ p. by_order p ((a, x) ∷ (row.0, z) ∷ rest) ((row.0, x) ∷ rest) ((row.0, z) ∷ with_entry a x rest)) e

    set_b : (o : Ordering) (z : A) (rest : Table A) → by_bytes b row.0 ≡ o
        → with_entry b y ((row.0, z) ∷ rest)
        ≡ by_order o ((b, y) ∷ (row.0, z) ∷ rest) ((row.0, y) ∷ rest) ((row.0, z) ∷ with_entry b y rest)
    set_b o z rest e =
        ap (λ p. by_order p ((b, y) ∷ (row.0, z) ∷ rest) ((row.0, y) ∷ rest) ((row.0, z) ∷ with_entry b y rest)) e

    by_smaller : (o : Ordering) → by_bytes b row.0 ≡ Greater → by_bytes a row.0 ≡ o
        → with_entry a x (with_entry b y rows) ≡ with_entry b y (with_entry a x rows)
        → with_entry a x (row ∷ with_entry b y rows) ≡ with_entry b y (with_entry a x (row ∷ rows))
    by_smaller Less e d rest =
        set_a Less row.1 (with_entry b y rows) d
        ∙ sym (ap (with_entry b y) (set_a Less row.1 rows d) ∙ behind (row ∷ rows)
        ∙ ap (λ z. (a, x) ∷ z) (set_b Greater row.1 rows e))
    by_smaller Equal e d rest =
        set_a Equal row.1 (with_entry b y rows) d
        ∙ sym (ap (with_entry b y) (set_a Equal row.1 rows d) ∙ set_b Greater x rows e)
    by_smaller Greater e d rest =
        set_a Greater row.1 (with_entry b y rows) d
        ∙ ap (λ z. row ∷ z) rest
        ∙ sym (ap (with_entry b y) (set_a Greater row.1 rows d) ∙ set_b Greater row.1 (with_entry a x rows) e)

    by_greater : (o p : Ordering) → by_bytes b row.0 ≡ o → by_bytes a row.0 ≡ p
        → with_entry a x (with_entry b y rows) ≡ with_entry b y (with_entry a x rows)
        → with_entry a x (with_entry b y (row ∷ rows)) ≡ with_entry b y (with_entry a x (row ∷ rows))
    by_greater Less p e d rest =
        let less : by_bytes a row.0 ≡ Less = nat_list_cmp_total.trans a b row.0 h e in
        ap (with_entry a x) (set_b Less row.1 rows e) ∙ before (row ∷ rows)
        ∙ sym (ap (with_entry b y) (set_a Less row.1 rows less) ∙ behind (row ∷ rows)
        ∙ ap (λ z. (a, x) ∷ z) (set_b Less row.1 rows e))
    by_greater Equal p e d rest =
        let less : by_bytes a row.0 ≡ Less = sym (alike_right nat_list_cmp_total b row.0 a e) ∙ h in
        ap (with_entry a x) (set_b Equal row.1 rows e) ∙ set_a Less y rows less
        ∙ sym (ap (with_entry b y) (set_a Less row.1 rows less) ∙ behind (row ∷ rows)
        ∙ ap (λ z. (a, x) ∷ z) (set_b Equal row.1 rows e))
    by_greater Greater p e d rest = ap (with_entry a x) (set_b Greater row.1 rows e) ∙ by_smaller p e d rest

-- the later of two entries of one name counts
set_again : {A : Type 0} (a : List ℕ) (x z : A) (t : Table A) → with_entry a x (with_entry a z t) ≡ with_entry a x t
set_again a x z [] =
    ap (λ o. by_order o ((a, x) ∷ (a, z) ∷ []) ((a, x) ∷ []) ((a, z) ∷ (a, x) ∷ [])) (tied_itself nat_list_cmp_total a)
set_again {A} a x z (row ∷ rows) = by_test (by_bytes a row.0) refl (set_again a x z rows)
  where
    set_at : (o : Ordering) (y w : A) (rest : Table A) → by_bytes a row.0 ≡ o
        → with_entry a y ((row.0, w) ∷ rest)
        ≡ by_order o ((a, y) ∷ (row.0, w) ∷ rest) ((row.0, y) ∷ rest) ((row.0, w) ∷ with_entry a y rest)
    set_at o y w rest e =
        ap (λ p. by_order p ((a, y) ∷ (row.0, w) ∷ rest) ((row.0, y) ∷ rest) ((row.0, w) ∷ with_entry a y rest)) e

    by_test : (o : Ordering) → by_bytes a row.0 ≡ o → with_entry a x (with_entry a z rows) ≡ with_entry a x rows
        → with_entry a x (with_entry a z (row ∷ rows)) ≡ with_entry a x (row ∷ rows)
    by_test Less e rest =
        ap (with_entry a x) (set_at Less z row.1 rows e)
        ∙ ap (λ o. by_order o ((a, x) ∷ (a, z) ∷ row ∷ rows) ((a, x) ∷ row ∷ rows)
        ((a, z) ∷ with_entry a x (row ∷ rows)))
        (tied_itself nat_list_cmp_total a)
        ∙ sym (set_at Less x row.1 rows e)
    by_test Equal e rest =
        ap (with_entry a x) (set_at Equal z row.1 rows e) ∙ set_at Equal x z rows e ∙ sym (set_at Equal x row.1 rows e)
    by_test Greater e rest =
        ap (with_entry a x) (set_at Greater z row.1 rows e) ∙ set_at Greater x row.1 (with_entry a z rows) e
        ∙ ap (λ t. row ∷ t) rest ∙ sym (set_at Greater x row.1 rows e)

-- a name below all names of rows
abbrev IsBelow : {A : Type 0} → List ℕ → Rows A → Type 0
IsBelow n [] = Unit {0}
IsBelow n (row ∷ rows) = (by_bytes n row.0 ≡ Less) × IsBelow n rows

is_less : (o : Ordering) → is_lt o ≡ true → o ≡ Less
is_less Less h = refl
is_less Equal h = absurd (cc)
is_less Greater h = absurd (cc)

both_first : (a b : Bool) → (a && b) ≡ true → a ≡ true
both_first true b h = refl
both_first false b h = absurd (cc)

both_second : (a b : Bool) → (a && b) ≡ true → b ≡ true
both_second true b h = h
both_second false b h = absurd (cc)

below_each : {A : Type 0} (n : List ℕ) (rows : Table A) → below_all by_bytes n rows ≡ true → IsBelow n rows
below_each n [] h = tt
below_each n (row ∷ rows) h = (
  is_less (by_bytes n row.0) (both_first (is_lt (by_bytes n row.0)) (below_all by_bytes n rows) h),
  below_each n rows (both_second (is_lt (by_bytes n row.0)) (below_all by_bytes n rows) h),
)

below_still : {A : Type 0} (m n : List ℕ) (rows : Table A) → by_bytes m n ≡ Less → IsBelow n rows → IsBelow m rows
below_still m n [] h k = tt
below_still m n (row ∷ rows) h k = (nat_list_cmp_total.trans m n row.0 h k.0, below_still m n rows h k.1)

-- an entry below all others may be set first or last
set_past : {A : Type 0} (n : List ℕ) (x : A) (rows t : Table A) → IsBelow n rows
    → with_all rows (with_entry n x t) ≡ with_entry n x (with_all rows t)
set_past n x [] t h = refl
set_past n x (row ∷ rows) t h =
    ap (with_all rows) (sym (set_both n row.0 x row.1 t h.0)) ∙ set_past n x rows (with_entry row.0 row.1 t) h.1

-- an entry that was set in rows is the last to be set
set_among : {A : Type 0} (n : List ℕ) (x : A) (rows t : Table A) → IsTable rows
    → with_all (with_entry n x rows) t ≡ with_entry n x (with_all rows t)
set_among n x [] t h = refl
set_among {A} n x (row ∷ rows) t h =
    by_test (by_bytes n row.0) refl (set_among n x rows (with_entry row.0 row.1 t) risen)
  where
    below : IsBelow row.0 rows
    below = below_each row.0 rows (both_first (below_all by_bytes row.0 rows) (is_sorted by_bytes rows) h)

    risen : IsTable rows
    risen = both_second (below_all by_bytes row.0 rows) (is_sorted by_bytes rows) h

    set_at : (o : Ordering) → by_bytes n row.0 ≡ o
        → with_entry n x (row ∷ rows)
        ≡ by_order o ((n, x) ∷ row ∷ rows) ((row.0, x) ∷ rows) (row ∷ with_entry n x rows)
    set_at o e = ap (λ p. by_order p ((n, x) ∷ row ∷ rows) ((row.0, x) ∷ rows) (row ∷ with_entry n x rows)) e

    by_test : (o : Ordering) → by_bytes n row.0 ≡ o
        → with_all (with_entry n x rows) (with_entry row.0 row.1 t)
        ≡ with_entry n x (with_all rows (with_entry row.0 row.1 t))
        → with_all (with_entry n x (row ∷ rows)) t ≡ with_entry n x (with_all (row ∷ rows) t)
    by_test Less e rest =
        ap (λ (all : Table A). with_all all t) (set_at Less e)
        ∙ set_past n x (row ∷ rows) t (e, below_still n row.0 rows e below)
    by_test Equal e rest =
        let one : n ≡ row.0 = slice_cmp-IsAntisymmetric nat_cmp-IsAntisymmetric n row.0 e in
        ap (λ (all : Table A). with_all all t) (set_at Equal e)
        ∙ ap (with_all rows) (sym (set_again row.0 x row.1 t))
        ∙ set_past row.0 x rows (with_entry row.0 row.1 t) below
        ∙ ap (λ m. with_entry m x (with_all rows (with_entry row.0 row.1 t))) (sym one)
    by_test Greater e rest = ap (λ (all : Table A). with_all all t) (set_at Greater e) ∙ rest

-- rows that were made a table set what they set one after another
pub all_at_once : {A : Type 0} (rows made t : Table A) → IsTable made
    → with_all (with_all rows made) t ≡ with_all rows (with_all made t)
all_at_once [] made t h = refl
all_at_once {A} (row ∷ rows) made t h =
    all_at_once rows (with_entry row.0 row.1 made) t ((sets_entries A).kept row.0 row.1 made h)
    ∙ ap (with_all rows) (set_among row.0 row.1 made t h)

-- ---- a table as the rows of its names

-- the row of a name, if there is something under it
abbrev pub row_of : {A : Type 0} → List ℕ → Option A → Rows A
row_of name None = []
row_of name (Some x) = (name, x) ∷ []

abbrev pub rows_of : {A : Type 0} → Table A → List (List ℕ) → Rows A
rows_of table [] = []
rows_of table (name ∷ names) = row_of name (entry name table) ++ rows_of table names

abbrev AreAbove : List ℕ → List (List ℕ) → Type 0
AreAbove n [] = Unit {0}
AreAbove n (m ∷ ms) = (by_bytes n m ≡ Less) × AreAbove n ms

above_still : (m n : List ℕ) (ns : List (List ℕ)) → by_bytes m n ≡ Less → AreAbove n ns → AreAbove m ns
above_still m n [] h k = tt
above_still m n (l ∷ ls) h k = (nat_list_cmp_total.trans m n l h k.0, above_still m n ls h k.1)

rising_rest : (n : List ℕ) (ns : List (List ℕ)) → AreRising (n ∷ ns) → AreRising ns
rising_rest n [] h = tt
rising_rest n (m ∷ ms) h = h.1

rising_above : (n : List ℕ) (ns : List (List ℕ)) → AreRising (n ∷ ns) → AreAbove n ns
rising_above n [] h = tt
rising_above n (m ∷ ms) h = (h.0, above_still n m ms h.0 (rising_above m ms h.1))

rows_past : {A : Type 0} (row : List ℕ × A) (table : Table A) (names : List (List ℕ)) → AreAbove row.0 names
    → rows_of (row ∷ table) names ≡ rows_of table names
rows_past row table [] h = refl
rows_past {A} row table (name ∷ names) h =
    ap (λ (o : Option A). row_of name o ++ rows_of (row ∷ table) names)
    (ap (λ o. cond (is_eq o) (Some row.1) (entry name table)) (turned row.0 name h.0))
    ∙ ap (λ (rows : Rows A). row_of name (entry name table) ++ rows) (rows_past row table names h.1)

pub rows_of-names : {A : Type 0} (table : Table A) → AreRising (names_of table) → rows_of table (names_of table) ≡ table
rows_of-names [] h = refl
rows_of-names {A} (row ∷ table) h =
    ap (λ (o : Option A). row_of row.0 o ++ rows_of (row ∷ table) (names_of table))
    (ap (λ o. cond (is_eq o) (Some row.1) (entry row.0 table)) (tied_itself nat_list_cmp_total row.0))
    ∙ ap (λ (rows : Rows A). row ∷ rows)
    (rows_past row table (names_of table) (rising_above row.0 (names_of table) h)
    ∙ rows_of-names table (rising_rest row.0 (names_of table) h))

pub rows_of-append : {A : Type 0} (table : Table A) (front back : List (List ℕ))
    → rows_of table (front ++ back) ≡ rows_of table front ++ rows_of table back
rows_of-append table [] back = refl
rows_of-append {A} table (name ∷ names) back =
    ap (λ (rows : Rows A). row_of name (entry name table) ++ rows) (rows_of-append table names back)
    ∙ sym (append_assoc (row_of name (entry name table)) (rows_of table names) (rows_of table back))
