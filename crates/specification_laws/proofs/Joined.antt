-- Environments that modify one another in turn, and that have no name in common.
use Rattle.std.proofs.Common.{◌≡◌, ℕ, List, [], ◌∷◌, refl, sym, ap, ◌∙◌, subst, Option, Some, None, Bool, true, false, ◌||◌, cond}
use lib.Dec.{T}
use Rattle.std.specs.Option.{is_some}
use Rattle.std.specs.Ordering.{eq_by_cmp, is_eq}
use Rattle.std.specs.Cmp.{tied_itself}
use Rattle.std.specs.Cmp.Lexicographic.{nat_list_cmp_total}
use Rattle.std.specs.FinMap.{nat_cmp-IsAntisymmetric, slice_cmp-IsAntisymmetric}
use Rattle.std.specs.FinMap.Entries.{is_sorted, same_entries}
use Rattle.semantic_objects.specs.declared.entry.TypeStr.{TypeStr}
use Rattle.semantic_objects.specs.declared.entry.ValueEntry.{ValueEntry}
use Rattle.semantic_objects.specs.Tables.{Table, by_bytes, IsTable, entry, with_all}
use Rattle.semantic_objects.specs.Environments.{Env, structures_of, structures, types, values, empty_env, modified_by}
use Rattle.semantic_objects.proofs.Promised.{keeps_structures}
use Rattle.module_semantics.specs.SignatureInference.{shares, have_common}
use Rattle.table_laws.specs.Rising.{RisingEnv}
use Rattle.table_laws.proofs.Tables.{all_kept, rising_structures, rising_types, rising_values}
use Rattle.signature_laws.proofs.Tables.{is_name, past_rows, of_rows_counts}

-- ---- tables

true_so : (b : Bool) → b ≡ true → T b
true_so b h = subst T (sym h) tt

-- tables with the same entries are one
pub one_table : {A : Type 0} (a b : Table A) → IsTable a → IsTable b → ((n : List ℕ) → entry n a ≡ entry n b) → a ≡ b
one_table a b h k f = same_entries by_bytes nat_list_cmp_total
    (λ m n e. slice_cmp-IsAntisymmetric nat_cmp-IsAntisymmetric m n e) a b (true_so (is_sorted by_bytes a) h)
    (true_so (is_sorted by_bytes b) k) f

abbrev pub or_later : {A : Type 0} → Option A → Option A → Option A
or_later None o = o
or_later (Some x) o = Some x

by_rows : {A : Type 0} (n : List ℕ) (rows table : Table A) (o : Option A) → IsTable rows → entry n rows ≡ o
    → entry n (with_all rows table) ≡ or_later o (entry n table)
by_rows n rows table None h e = past_rows n rows table e
by_rows n rows table (Some x) h e = of_rows_counts n x rows table h e

pub entry_all : {A : Type 0} (n : List ℕ) (rows table : Table A) → IsTable rows
    → entry n (with_all rows table) ≡ or_later (entry n rows) (entry n table)
entry_all n rows table h = by_rows n rows table (entry n rows) h refl

later_later : {A : Type 0} (a b c : Option A) → or_later a (or_later b c) ≡ or_later (or_later a b) c
later_later None b c = refl
later_later (Some x) b c = refl

all_in_turn : {A : Type 0} (a b c : Table A) → IsTable a → IsTable b → IsTable c
    → with_all c (with_all b a) ≡ with_all (with_all c b) a
all_in_turn a b c h k l = one_table (with_all c (with_all b a)) (with_all (with_all c b) a)
    (all_kept c (with_all b a) (all_kept b a h)) (all_kept (with_all c b) a h) (λ n.
    entry_all n c (with_all b a) l ∙ ap (or_later (entry n c)) (entry_all n b a k)
    ∙ later_later (entry n c) (entry n b) (entry n a)
    ∙ sym (entry_all n (with_all c b) a (all_kept c b k) ∙ ap (λ o. or_later o (entry n a)) (entry_all n c b l)))

-- ---- environments

abbrev made_of : Table Env → Table TypeStr → Table ValueEntry → Env
made_of ss ts vs = Env.MakeEnv (structures_of ss) ts vs

pub made_is : (ss us : Table Env) (ts xs : Table TypeStr) (vs ys : Table ValueEntry) → ss ≡ us → ts ≡ xs → vs ≡ ys
    → Env.MakeEnv (structures_of ss) ts vs ≡ Env.MakeEnv (structures_of us) xs ys
made_is ss us ts xs vs ys h k l =
    ap (λ rows. made_of rows ts vs) h ∙ ap (λ rows. made_of us rows vs) k ∙ ap (made_of us xs) l

pub structures_modified : (env by : Env) → structures (modified_by env by) ≡ with_all (structures by) (structures env)
structures_modified env by = keeps_structures.table (with_all (structures by) (structures env))

pub in_turn : (a b c : Env) → RisingEnv a → RisingEnv b → RisingEnv c
    → modified_by (modified_by a b) c ≡ modified_by a (modified_by b c)
in_turn a b c h k l = made_is
    (with_all (structures c) (structures (modified_by a b))) (with_all (structures (modified_by b c)) (structures a))
    (with_all (types c) (with_all (types b) (types a))) (with_all (with_all (types c) (types b)) (types a))
    (with_all (values c) (with_all (values b) (values a))) (with_all (with_all (values c) (values b)) (values a))
    (ap (with_all (structures c)) (structures_modified a b)
    ∙ all_in_turn (structures a) (structures b) (structures c) (rising_structures a h).0 (rising_structures b k).0
    (rising_structures c l).0
    ∙ ap (λ rows. with_all rows (structures a)) (sym (structures_modified b c)))
    (all_in_turn (types a) (types b) (types c) (rising_types a h).0 (rising_types b k).0 (rising_types c l).0)
    (all_in_turn (values a) (values b) (values c) (rising_values a h) (rising_values b k) (rising_values c l))

-- an environment that modifies nothing
alone_table : {A : Type 0} (rows : Table A) → IsTable rows → with_all rows [] ≡ rows
alone_table rows h = one_table (with_all rows []) rows (all_kept rows [] refl) h
    (λ n. entry_all n rows [] h ∙ later_none (entry n rows))
  where
    later_none : {X : Type 0} (o : Option X) → or_later o None ≡ o
    later_none None = refl
    later_none (Some x) = refl

pub back : (env : Env) → Env.MakeEnv (structures_of (structures env)) (types env) (values env) ≡ env
back (Env.MakeEnv ss ts vs) = ap (λ z. Env.MakeEnv z ts vs) (keeps_structures.parts ss)

pub from_nothing : (env : Env) → RisingEnv env → modified_by empty_env env ≡ env
from_nothing env h = made_is (with_all (structures env) []) (structures env) (with_all (types env) []) (types env)
    (with_all (values env) []) (values env) (alone_table (structures env) (rising_structures env h).0)
    (alone_table (types env) (rising_types env h).0) (alone_table (values env) (rising_values env h)) ∙ back env

pub with_nothing : (env : Env) → modified_by env empty_env ≡ env
with_nothing env = back env

-- an environment that modifies itself
table_twice : {A : Type 0} (rows : Table A) → IsTable rows → with_all rows rows ≡ rows
table_twice rows h = one_table (with_all rows rows) rows (all_kept rows rows h) h
    (λ n. entry_all n rows rows h ∙ later_same (entry n rows))
  where
    later_same : {X : Type 0} (o : Option X) → or_later o o ≡ o
    later_same None = refl
    later_same (Some x) = refl

pub twice : (env : Env) → RisingEnv env → modified_by env env ≡ env
twice env h = made_is (with_all (structures env) (structures env)) (structures env)
    (with_all (types env) (types env)) (types env) (with_all (values env) (values env)) (values env)
    (table_twice (structures env) (rising_structures env h).0) (table_twice (types env) (rising_types env h).0)
    (table_twice (values env) (rising_values env h)) ∙ back env

-- ---- names in common

-- no name of rows is one of a table
abbrev pub Disjoint : {A : Type 0} → Table A → Table A → Type 0
Disjoint rows table = (n : List ℕ) → is_some (entry n rows) ≡ true → entry n table ≡ None

some_or : {A : Type 0} (o : Option A) (b : Bool) → (is_some o || b) ≡ false → (o ≡ None) × (b ≡ false)
some_or None b h = (refl, h)
some_or (Some x) b h = absurd (cc)

tied_name : {A : Type 0} (n m : List ℕ) (table : Table A) → eq_by_cmp by_bytes n m ≡ true → entry m table ≡ None
    → entry n table ≡ None
tied_name n m table e h = subst (λ z. entry z table ≡ None) (sym (is_name n m e)) h

by_first : {A : Type 0} (c : Bool) (x : A) (o : Option A) (P : Type 0) → is_some (cond c (Some x) o) ≡ true
    → (c ≡ true → P) → (is_some o ≡ true → P) → P
by_first true x o P h f g = f refl
by_first false x o P h f g = g h

pub disjoint : {A : Type 0} (rows table : Table A) → shares rows table ≡ false → Disjoint rows table
disjoint [] table h n e = absurd (cc)
disjoint (row ∷ rows) table h n e =
    let both : (entry row.0 table ≡ None) × (shares rows table ≡ false) =
    some_or (entry row.0 table) (shares rows table) h in
    by_first (eq_by_cmp by_bytes n row.0) row.1 (entry n rows) (entry n table ≡ None) e
    (λ i. tied_name n row.0 table i both.0) (λ i. disjoint rows table both.1 n i)

-- each row of some rows has its name in a table
abbrev AllFound : {A : Type 0} → Table A → Table A → Type 0
AllFound [] all = Unit {0}
AllFound (row ∷ rows) all = (is_some (entry row.0 all) ≡ true) × AllFound rows all

found_more : {A : Type 0} (rows all : Table A) (row : List ℕ × A) → AllFound rows all → AllFound rows (row ∷ all)
found_more [] all row h = tt
found_more (next ∷ rows) all row h =
    (some_either (eq_by_cmp by_bytes next.0 row.0) row.1 (entry next.0 all) h.0, found_more rows all row h.1)
  where
    some_either : {X : Type 0} (c : Bool) (x : X) (o : Option X) → is_some o ≡ true → is_some (cond c (Some x) o) ≡ true
    some_either true x o e = refl
    some_either false x o e = e

all_found : {A : Type 0} (rows : Table A) → AllFound rows rows
all_found [] = tt
all_found (row ∷ rows) = (
  here (eq_by_cmp by_bytes row.0 row.0) (ap is_eq (tied_itself nat_list_cmp_total row.0)),
  found_more rows rows row (all_found rows),
)
  where
    here : (c : Bool) → c ≡ true → is_some (cond c (Some row.1) (entry row.0 rows)) ≡ true
    here true e = refl
    here false e = absurd (cc)

shares_none : {A : Type 0} (rows all table : Table A) → AllFound rows all → Disjoint all table
    → shares rows table ≡ false
shares_none [] all table h d = refl
shares_none (row ∷ rows) all table h d = rw (d row.0 h.0, shares_none rows all table h.1 d)

pub not_shared : {A : Type 0} (rows table : Table A) → Disjoint rows table → shares rows table ≡ false
not_shared rows table d = shares_none rows rows table (all_found rows) d

-- ---- environments without common names

pub record Apart (part env : Env) : Type 0 where
  pub structures : Disjoint (structures part) (structures env)
  pub types : Disjoint (types part) (types env)
  pub values : Disjoint (values part) (values env)

or_none : (a b : Bool) → (a || b) ≡ false → (a ≡ false) × (b ≡ false)
or_none true b h = absurd (cc)
or_none false b h = (refl, h)

pub apart_is : (part env : Env) → have_common part env ≡ false → Apart part env
apart_is part env h =
    let first = or_none (shares (structures part) (structures env))
    (shares (types part) (types env) || shares (values part) (values env)) h in
    let second = or_none (shares (types part) (types env)) (shares (values part) (values env)) first.1 in
    record {
      structures = disjoint (structures part) (structures env) first.0;
      types = disjoint (types part) (types env) second.0;
      values = disjoint (values part) (values env) second.1;
    }

pub none_common : (part env : Env) → Apart part env → have_common part env ≡ false
none_common part env h = rw (
  not_shared (structures part) (structures env) h.structures,
  not_shared (types part) (types env) h.types,
  not_shared (values part) (values env) h.values,
)

none_later : {A : Type 0} (a b : Option A) → or_later a b ≡ None → (a ≡ None) × (b ≡ None)
none_later None b h = (refl, h)
none_later (Some x) b h = absurd (cc)

none_both : {A : Type 0} (a b : Option A) → a ≡ None → b ≡ None → or_later a b ≡ None
none_both None b h k = k
none_both (Some x) b h k = absurd (cc)

some_later : {A : Type 0} (a b : Option A) (P : Type 0) → is_some (or_later a b) ≡ true → (is_some a ≡ true → P)
    → (is_some b ≡ true → P) → P
some_later None b P h f g = g h
some_later (Some x) b P h f g = f refl

-- of a table under other rows
parts_of : {A : Type 0} (rows first second : Table A) → IsTable second → Disjoint rows (with_all second first)
    → Disjoint rows first × Disjoint rows second
parts_of rows first second k d = (
  (λ n e. (none_later (entry n second) (entry n first) (sym (entry_all n second first k) ∙ d n e)).1),
  (λ n e. (none_later (entry n second) (entry n first) (sym (entry_all n second first k) ∙ d n e)).0),
)

-- .. and of rows that are two
of_parts : {A : Type 0} (first second table : Table A) → IsTable second → Disjoint first table → Disjoint second table
    → Disjoint (with_all second first) table
of_parts first second table k d f n e =
    some_later (entry n second) (entry n first) (entry n table ≡ None)
    (sym (ap is_some (entry_all n second first k)) ∙ e) (λ i. f n i) (λ i. d n i)

pub apart_parts : (part first second : Env) → RisingEnv second → Apart part (modified_by first second)
    → Apart part first × Apart part second
apart_parts part first second k d =
    let s = parts_of (structures part) (structures first) (structures second) (rising_structures second k).0
    (subst (Disjoint (structures part)) (structures_modified first second) d.structures) in
    let t = parts_of (types part) (types first) (types second) (rising_types second k).0 d.types in
    let v = parts_of (values part) (values first) (values second) (rising_values second k) d.values in (
      (record { structures = s.0; types = t.0; values = v.0 }),
      (record { structures = s.1; types = t.1; values = v.1 }),
    )

pub parts_apart : (first second env : Env) → RisingEnv second → Apart first env → Apart second env
    → Apart (modified_by first second) env
parts_apart first second env k d f = record {
  structures = subst (λ z. Disjoint z (structures env)) (sym (structures_modified first second))
      (of_parts (structures first) (structures second) (structures env) (rising_structures second k).0 d.structures
      f.structures);
  types = of_parts (types first) (types second) (types env) (rising_types second k).0 d.types f.types;
  values = of_parts (values first) (values second) (values env) (rising_values second k) d.values f.values;
}

pub nothing_apart : (env : Env) → Apart empty_env env
nothing_apart env = record {
  structures = λ n e. absurd (cc);
  types = λ n e. absurd (cc);
  values = λ n e. absurd (cc);
}
