-- What is found in tables that are put together, and whose entries are changed.
use Rattle.std.proofs.Common.{◌≡◌, ◌≢◌, ℕ, List, [], ◌∷◌, refl, sym, ap, ◌∙◌, subst, Option, Some, None, Bool, true, false, ◌||◌, cond}
use Rattle.std.specs.Option.{is_some}
use Rattle.std.specs.Ordering.{eq_by_cmp, is_eq, is_lt}
use Rattle.std.specs.Cmp.{tied_itself}
use Rattle.std.specs.Cmp.Lexicographic.{nat_list_cmp_total}
use Rattle.std.specs.FinMap.{nat_cmp-IsAntisymmetric, slice_cmp-IsAntisymmetric}
use Rattle.std.specs.FinMap.Entries.{is_sorted, below_all}
use Rattle.std.specs.declared.cmp.Ordering.{Ordering}
use Rattle.std.specs.declared.cmp.Ordering.TheVariants as ordering
use Rattle.semantic_objects.specs.Tables.{Table, by_bytes, IsTable, entry, with_entry, with_all}
use Rattle.semantic_objects.proofs.Promised.{sets_entries}
use Rattle.unification.proofs.Walking.{and_left, and_right, either_way}
use Rattle.realisation.specs.Environments.{each_row}
use Rattle.module_semantics.specs.SignatureInference.{shares}
use Rattle.signature_laws.specs.Standing.{IsFound}

-- ---- names

tied_is : (m n : List ℕ) (o : Ordering) → by_bytes m n ≡ o → is_eq o ≡ true → m ≡ n
tied_is m n ordering.Less e h = absurd (cc)
tied_is m n ordering.Equal e h = slice_cmp-IsAntisymmetric nat_cmp-IsAntisymmetric m n e
tied_is m n ordering.Greater e h = absurd (cc)

pub is_name : (m n : List ℕ) → eq_by_cmp by_bytes m n ≡ true → m ≡ n
is_name m n h = tied_is m n (by_bytes m n) refl h

pub other_name : (m n : List ℕ) → eq_by_cmp by_bytes m n ≡ false → n ≢ m
other_name m n h e =
    let k : by_bytes m n ≡ ordering.Equal = subst (λ z. by_bytes m z ≡ ordering.Equal) (sym e)
    (tied_itself nat_list_cmp_total m) in
    let l : eq_by_cmp by_bytes m n ≡ true = ap is_eq k in absurd (cc)

-- ---- in a row and after it

first_none : {A : Type 0} (c : Bool) (x : A) (o : Option A) → cond c (Some x) o ≡ None → (c ≡ false) × (o ≡ None)
first_none true x o h = absurd (cc)
first_none false x o h = (refl, h)

pub apart : {A : Type 0} (name : List ℕ) (row : List ℕ × A) (rows : Table A) → entry name (row ∷ rows) ≡ None
    → (row.0 ≢ name) × (entry name rows ≡ None)
apart name row rows h =
    let k : (eq_by_cmp by_bytes name row.0 ≡ false) × (entry name rows ≡ None) =
    first_none (eq_by_cmp by_bytes name row.0) row.1 (entry name rows) h in
    (other_name name row.0 k.0, k.1)

-- ---- rows over a table

pub past_rows : {A : Type 0} (name : List ℕ) (rows table : Table A) → entry name rows ≡ None
    → entry name (with_all rows table) ≡ entry name table
past_rows name [] table h = refl
past_rows {A} name (row ∷ rows) table h =
    past_rows name rows (with_entry row.0 row.1 table) (apart name row rows h).1
    ∙ (sets_entries A).others row.0 name row.1 table (apart name row rows h).0

-- rows that rise: their first name stands in no other row
less_not : (o : Ordering) → is_lt o ≡ true → is_eq o ≡ false
less_not ordering.Less e = refl
less_not ordering.Equal e = absurd (cc)
less_not ordering.Greater e = absurd (cc)

skip : {A : Type 0} (c : Bool) (x : A) (o : Option A) → c ≡ false → o ≡ None → cond c (Some x) o ≡ None
skip true x o h k = absurd (cc)
skip false x o h k = k

below_none : {A : Type 0} (name : List ℕ) (rows : Table A) → below_all by_bytes name rows ≡ true
    → entry name rows ≡ None
below_none name [] h = refl
below_none name (row ∷ rows) h = skip (eq_by_cmp by_bytes name row.0) row.1 (entry name rows)
    (less_not (by_bytes name row.0) (and_left (is_lt (by_bytes name row.0)) (below_all by_bytes name rows) h))
    (below_none name rows (and_right (is_lt (by_bytes name row.0)) (below_all by_bytes name rows) h))

here_or : {A : Type 0} (c : Bool) (x y : A) (o : Option A) → cond c (Some x) o ≡ Some y
    → (R : Type 0) → (c ≡ true → x ≡ y → R) → (o ≡ Some y → R) → R
here_or true x y o h R f g = f refl (let k : Some x ≡ Some y = h in cc)
here_or false x y o h R f g = g h

-- an entry of rows that rise counts, whatever the table has
pub of_rows_counts : {A : Type 0} (name : List ℕ) (x : A) (rows table : Table A) → IsTable rows
    → entry name rows ≡ Some x → entry name (with_all rows table) ≡ Some x
of_rows_counts name x [] table h k = absurd (cc)
of_rows_counts {A} name x (row ∷ rows) table h k =
    here_or (eq_by_cmp by_bytes name row.0) row.1 x (entry name rows) k
    (entry name (with_all rows (with_entry row.0 row.1 table)) ≡ Some x)
    (λ e f.
    let same : name ≡ row.0 = is_name name row.0 e in
    past_rows name rows (with_entry row.0 row.1 table)
    (subst (λ n. entry n rows ≡ None) (sym same)
    (below_none row.0 rows (and_left (below_all by_bytes row.0 rows) (is_sorted by_bytes rows) h)))
    ∙ subst (λ n. entry n (with_entry row.0 row.1 table) ≡ Some row.1) (sym same)
    ((sets_entries A).here row.0 row.1 table)
    ∙ ap Some f)
    (λ l. of_rows_counts name x rows (with_entry row.0 row.1 table)
    (and_right (below_all by_bytes row.0 rows) (is_sorted by_bytes rows) h) l)

-- ---- tables without a common name

none_or : {A : Type 0} (o : Option A) (b : Bool) → (is_some o || b) ≡ false → (o ≡ None) × (b ≡ false)
none_or None b h = (refl, h)
none_or (Some x) b h = absurd (cc)

not_shared : {A : Type 0} (name : List ℕ) (x : A) (rows table : Table A) → shares rows table ≡ false
    → entry name table ≡ Some x → entry name rows ≡ None
not_shared name x [] table h k = refl
not_shared name x (row ∷ rows) table h k =
    let both : (entry row.0 table ≡ None) × (shares rows table ≡ false) =
    none_or (entry row.0 table) (shares rows table) h in
    either_way (eq_by_cmp by_bytes name row.0)
    (λ e.
    let l : entry name table ≡ None = subst (λ n. entry n table ≡ None) (sym (is_name name row.0 e)) both.0 in
    absurd (cc))
    (λ e. skip (eq_by_cmp by_bytes name row.0) row.1 (entry name rows) e
    (not_shared name x rows table both.1 k))

-- an entry of a table counts where rows have no name of it
pub of_table_counts : {A : Type 0} (name : List ℕ) (x : A) (rows table : Table A) → shares rows table ≡ false
    → entry name table ≡ Some x → entry name (with_all rows table) ≡ Some x
of_table_counts name x rows table h k = past_rows name rows table (not_shared name x rows table h k) ∙ k

-- ---- of what is found

pub found_by : {A : Type 0} (R : A → Type 0) (o p : Option A) → ((x : A) → o ≡ Some x → p ≡ Some x) → IsFound R o
    → IsFound R p
found_by R None p f h = absurd h
found_by R (Some x) p f h = subst (IsFound R) (sym (f x refl)) h

changed_option : {A : Type 0} (f : A → A) (c : Bool) (x : A) (o p : Option A) (R Q : A → Type 0)
    → ((y : A) → R y → Q (f y)) → (IsFound R o → IsFound Q p) → IsFound R (cond c (Some x) o)
    → IsFound Q (cond c (Some (f x)) p)
changed_option f true x o p R Q g h k = g x k
changed_option f false x o p R Q g h k = h k

pub found_changed : {A : Type 0} (f : A → A) (R Q : A → Type 0) (name : List ℕ) (rows : Table A)
    → ((x : A) → R x → Q (f x)) → IsFound R (entry name rows) → IsFound Q (entry name (each_row f rows))
found_changed f R Q name [] g h = absurd h
found_changed f R Q name (row ∷ rows) g h =
    changed_option f (eq_by_cmp by_bytes name row.0) row.1 (entry name rows) (entry name (each_row f rows)) R Q g
    (found_changed f R Q name rows g) h
