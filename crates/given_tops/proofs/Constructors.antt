-- Entries of environments, and the order of their constructors.
use Rattle.std.proofs.Common.{◌≡◌, ℕ, zero, suc, ◌+◌, ◌<◌, ◌≤◌, refl, sym, ap, ap₂, ◌∙◌, subst, arith, Some, drop, List, [], ◌∷◌, length, map, get_or, Bool, true, false, ◌&&◌, eqb}
use Rattle.std.specs.Prelude.{◌↔◌, slice_get}
use Rattle.std.specs.Ordering.{nat_cmp, is_lt}
use Rattle.std.specs.declared.cmp.Ordering.{Ordering}
use Rattle.std.specs.declared.cmp.Ordering.TheVariants.{Less}
use Rattle.std.specs.declared.cmp.Ordering.TheVariants as ordering
use Rattle.std.proofs.lemmas.Bool.{eqb-true, eqb-false}
use Rattle.std.proofs.lemmas.Option.{get_or_from_slice_get}
use Rattle.std.specs.Cmp.Lexicographic.{slice_cmp, nat_list_cmp_total}
use Rattle.std.specs.FinMap.Entries.{below_all, is_sorted}
use Rattle.unification.proofs.Walking.{not_both, and_left, and_right, and_both}
use Rattle.env_parts.proofs.Tabling.{drop_past}
use Rattle.semantic_objects.specs.declared.entry.ConEntry.{ConEntry}
use Rattle.semantic_objects.specs.declared.entry.TypeStr.{TypeStr}
use Rattle.semantic_objects.specs.Symbols.{AreRising}
use Rattle.semantic_objects.specs.Tables.{Table, IsTable, by_bytes, names_of}
use Rattle.semantic_objects.specs.Trees.{TypeScheme}
use Rattle.static_semantics.specs.Holding.{AllItems, ConHas}
use Rattle.inference_laws.specs.Nodes.{Nodes}
use Rattle.table_laws.specs.Rising.{con_table, RisingType}
use Rattle.given_tops.specs.Fitting.{SchemeFits, FunctionFits, TypeFits}

-- ---- tables whose names rise

skipped : (n r : List ℕ) (ns : List (List ℕ)) → AreRising (n ∷ r ∷ ns) → AreRising (n ∷ ns)
skipped n r [] h = tt
skipped n r (m ∷ ms) h = (nat_list_cmp_total.trans n r m h.0 h.1.0, h.1.1)

rows_below : {A : Type 0} (n : List ℕ) (rows : Table A) → AreRising (n ∷ names_of rows) → below_all by_bytes n rows ≡ true
rows_below n [] h = refl
rows_below n (row ∷ rows) h =
    and_both (is_lt (by_bytes n row.0)) (below_all by_bytes n rows) (ap is_lt h.0)
    (rows_below n rows (skipped n row.0 (names_of rows) h))

behind : (n : List ℕ) (ns : List (List ℕ)) → AreRising (n ∷ ns) → AreRising ns
behind n [] h = tt
behind n (m ∷ ms) h = h.1

pub is_table : {A : Type 0} (rows : Table A) → AreRising (names_of rows) → IsTable rows
is_table [] h = refl
is_table (row ∷ rows) h =
    and_both (below_all by_bytes row.0 rows) (is_sorted by_bytes rows) (rows_below row.0 rows h)
    (is_table rows (behind row.0 (names_of rows) h))

is_less : (o : Ordering) → is_lt o ≡ true → o ≡ ordering.Less
is_less ordering.Less h = refl
is_less ordering.Equal h = absurd (cc)
is_less ordering.Greater h = absurd (cc)

pub table_rises : {A : Type 0} (rows : Table A) → IsTable rows → AreRising (names_of rows)
table_rises [] h = tt
table_rises (row ∷ []) h = tt
table_rises (row ∷ next ∷ rows) h = (
  is_less (by_bytes row.0 next.0) (and_left _ _ (and_left _ _ h)),
  table_rises (next ∷ rows) (and_right _ _ h),
)

-- ---- names that rise up to a place

-- each name before a place stands before the next one
pub record RisesTo (at : ℕ) (names : List (List ℕ)) : Type 0 where
  pub less : (k : ℕ) → suc k < at → suc k < length names
      → slice_cmp nat_cmp (get_or names k []) (get_or names (suc k) []) ≡ Less

rises_all : (at : ℕ) (names : List (List ℕ)) → RisesTo at names → length names ≤ at → AreRising names
rises_all at [] h le = tt
rises_all at (x ∷ []) h le = tt
rises_all zero (x ∷ y ∷ names) h le = absurd (omega (arith, le))
rises_all (suc at) (x ∷ y ∷ names) h le = (
  h.less 0 (omega (arith, le)) (omega arith),
  rises_all at (y ∷ names) (record {
    less = λ k lt within. h.less (suc k) (omega (arith, lt)) (omega (arith, within));
  }) (omega (arith, le)),
)

rises_at : (names : List (List ℕ)) (k : ℕ) (x y : List ℕ) → AreRising names → slice_get names k ≡ Some x
    → slice_get names (suc k) ≡ Some y → slice_cmp nat_cmp x y ≡ Less
rises_at [] k x y h e i = absurd (cc)
rises_at (a ∷ []) zero x y h e i = absurd (cc)
rises_at (a ∷ []) (suc k) x y h e i = absurd (cc)
rises_at (a ∷ b ∷ names) zero x y h e i =
    let p : a ≡ x = cc in
    let q : b ≡ y = cc in
    subst (λ z. slice_cmp nat_cmp z y ≡ Less) p (subst (λ z. slice_cmp nat_cmp a z ≡ Less) q h.0)
rises_at (a ∷ b ∷ names) (suc k) x y h e i = rises_at (b ∷ names) k x y h.1 e i

rises_next : (names : List (List ℕ)) (k : ℕ) (x y : List ℕ) → RisesTo (suc k) names → slice_get names k ≡ Some x
    → slice_get names (suc k) ≡ Some y → slice_cmp nat_cmp x y ≡ Less → RisesTo (suc (suc k)) names
rises_next names k x y h e i l = record { less = next }
  where
    last : (j : ℕ) → j ≡ k → slice_cmp nat_cmp (get_or names j []) (get_or names (suc j) []) ≡ Less
    last j s =
        subst (λ z. slice_cmp nat_cmp (get_or names z []) (get_or names (suc z) []) ≡ Less) (sym s)
        (ap₂ (slice_cmp nat_cmp) (get_or_from_slice_get names k x [] e) (get_or_from_slice_get names (suc k) y [] i) ∙ l)

    by_place : (j : ℕ) (b : Bool) → eqb j k ≡ b → suc j < suc (suc k) → suc j < length names
        → slice_cmp nat_cmp (get_or names j []) (get_or names (suc j) []) ≡ Less
    by_place j true s lt within = last j (eqb-true j k s)
    by_place j false s lt within =
        h.less j (let n : j ≡ k → ⊥ = eqb-false j k s in omega (arith, lt, n)) within

    next : (j : ℕ) → suc j < suc (suc k) → suc j < length names
        → slice_cmp nat_cmp (get_or names j []) (get_or names (suc j) []) ≡ Less
    next j lt within = by_place j (eqb j k) refl lt within

-- ---- the names of constructors

abbrev pub cons_names : List ConEntry → List (List ℕ)
cons_names cons = names_of (con_table cons)

name_at : (cons : List ConEntry) (k : ℕ) (con : ConEntry) → slice_get cons k ≡ Some con
    → slice_get (cons_names cons) k ≡ Some con.name
name_at [] k con h = absurd (cc)
name_at (x ∷ cons) zero con h = cc
name_at (x ∷ cons) (suc k) con h = name_at cons k con h

as_many : (cons : List ConEntry) → length (cons_names cons) ≡ length cons
as_many [] = refl
as_many (x ∷ cons) = ap suc (as_many cons)

pub cons_all : (at : ℕ) (cons : List ConEntry) → RisesTo at (cons_names cons) → length cons ≤ at
    → AreRising (cons_names cons)
cons_all at cons h le = rises_all at (cons_names cons) h (subst (λ z. z ≤ at) (sym (as_many cons)) le)

con_before : (cons : List ConEntry) (k : ℕ) (x y : ConEntry) → AreRising (cons_names cons) → slice_get cons k ≡ Some x
    → slice_get cons (suc k) ≡ Some y → slice_cmp nat_cmp x.name y.name ≡ Less
con_before cons k x y h e i = rises_at (cons_names cons) k x.name y.name h (name_at cons k x e) (name_at cons (suc k) y i)

con_after : (cons : List ConEntry) (k : ℕ) (x y : ConEntry) → RisesTo (suc k) (cons_names cons)
    → slice_get cons k ≡ Some x → slice_get cons (suc k) ≡ Some y → slice_cmp nat_cmp x.name y.name ≡ Less
    → RisesTo (suc (suc k)) (cons_names cons)
con_after cons k x y h e i l =
    rises_next (cons_names cons) k x.name y.name h (name_at cons k x e) (name_at cons (suc k) y i) l

-- the next name is looked at
pub rise_next : (cons : List ConEntry) (j at : ℕ) (x y : ConEntry) (b : Bool) → suc j ≡ at → slice_get cons j ≡ Some x
    → slice_get cons at ≡ Some y → (b ≡ true) ↔ (slice_cmp nat_cmp x.name y.name ≡ Less) → b ≡ true
    → RisesTo at (cons_names cons) → RisesTo (at + 1) (cons_names cons)
rise_next cons j at x y b e f g s t h =
    let k : suc at ≡ at + 1 = omega arith in
    subst (λ n. RisesTo n (cons_names cons)) k
    (subst (λ n. RisesTo (suc n) (cons_names cons)) e
    (con_after cons j x y (subst (λ n. RisesTo n (cons_names cons)) (sym e) h) f
    (subst (λ n. slice_get cons n ≡ Some y) (sym e) g) (s.0 t)))

pub rise_fails : (cons : List ConEntry) (j at : ℕ) (x y : ConEntry) (b : Bool) → suc j ≡ at → slice_get cons j ≡ Some x
    → slice_get cons at ≡ Some y → (b ≡ true) ↔ (slice_cmp nat_cmp x.name y.name ≡ Less) → b ≡ false
    → (false ≡ true) ↔ AreRising (cons_names cons)
rise_fails cons j at x y b e f g s t = (
  λ k. absurd (cc),
  λ h. absurd (not_both b t (s.1 (con_before cons j x y h f (subst (λ n. slice_get cons n ≡ Some y) (sym e) g)))),
)

-- ---- what stands in constructors

abbrev pub ConsFit : Nodes → List ConEntry → Type 0
ConsFit q cons = AllItems (ConHas (SchemeFits q)) cons

pub con_next : (q : Nodes) (rest more all : List ConEntry) (con : ConEntry) (b : Bool) → rest ≡ con ∷ more
    → (b ≡ true) ↔ SchemeFits q con.scheme → b ≡ true → ConsFit q rest ↔ ConsFit q all
    → ConsFit q more ↔ ConsFit q all
con_next q rest more all con b e s t h = (
  λ k. h.0 (subst (ConsFit q) (sym e) (s.0 t, k)),
  λ k. (subst (ConsFit q) e (h.1 k)).1,
)

pub con_fails : (q : Nodes) (rest more all : List ConEntry) (con : ConEntry) (b : Bool) → rest ≡ con ∷ more
    → (b ≡ true) ↔ SchemeFits q con.scheme → b ≡ false → ConsFit q rest ↔ ConsFit q all
    → (false ≡ true) ↔ ConsFit q all
con_fails q rest more all con b e s f h = (
  λ k. absurd (cc),
  λ k. absurd (not_both b f (s.1 (subst (ConsFit q) e (h.1 k)).0)),
)

pub cons_end : (q : Nodes) (all items : List ConEntry) (k : ℕ) → items ≡ all → length items ≤ k
    → ConsFit q (drop k all) ↔ ConsFit q all → (true ≡ true) ↔ ConsFit q all
cons_end q all items k e l h = (
  λ t. h.0 (subst (ConsFit q) (sym (drop_past k all (subst (λ (z : List ConEntry). length z ≤ k) e l))) tt),
  λ t. refl,
)

-- ---- type structures

pub type_is : (q : Nodes) (str : TypeStr) (r f c : Bool) → (r ≡ true) ↔ AreRising (cons_names str.cons) → r ≡ true
    → (f ≡ true) ↔ FunctionFits q str.function → f ≡ true → (c ≡ true) ↔ ConsFit q str.cons
    → (c ≡ true) ↔ TypeFits q str
type_is q str r f c rises rt fun ft cons = (
  λ t. record { has = (fun.0 ft, cons.0 t); rises = is_table (con_table str.cons) (rises.0 rt) },
  λ h. cons.1 h.has.1,
)

pub type_rises_not : (q : Nodes) (str : TypeStr) (r : Bool) → (r ≡ true) ↔ AreRising (cons_names str.cons) → r ≡ false
    → (false ≡ true) ↔ TypeFits q str
type_rises_not q str r rises f = (
  λ t. absurd (cc),
  λ h. absurd (not_both r f (rises.1 (table_rises (con_table str.cons) h.rises))),
)

pub type_function_not : (q : Nodes) (str : TypeStr) (b : Bool) → (b ≡ true) ↔ FunctionFits q str.function → b ≡ false
    → (false ≡ true) ↔ TypeFits q str
type_function_not q str b fun f = (
  λ t. absurd (cc),
  λ h. absurd (not_both b f (fun.1 h.has.0)),
)
