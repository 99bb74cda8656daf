-- Names that stand in environments that are put together, and where names are replaced.
use Rattle.std.proofs.Common.{◌≡◌, ℕ, suc, ◌≤◌, List, [], ◌∷◌, ◌++◌, length, filter, refl, sym, ap, ◌∙◌, subst, arith, Some, Bool, true, false, ◌||◌, not, cond}
use Rattle.semantic_objects.specs.declared.name.TyName.{TyName}
use Rattle.semantic_objects.specs.declared.entry.TypeFn.{TypeFn}
use Rattle.semantic_objects.specs.Symbols.{same_name}
use Rattle.semantic_objects.specs.Tables.{entry, with_all}
use Rattle.semantic_objects.specs.Environments.{Env, Structures, table_of, structures, types, values, modified_by}
use Rattle.semantic_objects.proofs.Promised.{keeps_structures}
use Rattle.realisation.specs.Environments.{Change, by_types, changed_type, each_row, changed, changed_structures}
use Rattle.realisation.specs.Realised.{Realisation, of_rows, realised_tree, realised_function, realised}
use Rattle.realisation.proofs.Listing.{name_is, name_same}
use Rattle.static_semantics.specs.DatatypeInference.{own_type}
use Rattle.static_semantics.specs.Holding.{AllItems}
use Rattle.module_semantics.specs.SignatureNames.{name_alone, rows_between}
use Rattle.module_semantics.specs.SignatureInference.{shares, have_common}
use Rattle.table_laws.specs.Rising.{RisingEnv}
use Rattle.table_laws.proofs.Tables.{rising_structures, rising_types}
use Rattle.signature_laws.specs.Standing.{IsFound, IsOfName, StandsAt, Stands}
use Rattle.signature_laws.proofs.Tables.{of_rows_counts, of_table_counts, found_by, found_changed}
use Rattle.signature_laws.proofs.Alone.{put_other, put_same}

-- ---- environments that are put together

or_none : (a b : Bool) → (a || b) ≡ false → (a ≡ false) × (b ≡ false)
or_none true b h = absurd (cc)
or_none false b h = (refl, h)

-- nothing is common to two environments
record Apart (part env : Env) : Type 0 where
  structures : shares (structures part) (structures env) ≡ false
  types : shares (types part) (types env) ≡ false

apart_is : (part env : Env) → have_common part env ≡ false → Apart part env
apart_is part env h =
    let first : (shares (structures part) (structures env) ≡ false)
    × ((shares (types part) (types env) || shares (values part) (values env)) ≡ false) =
    or_none (shares (structures part) (structures env))
    (shares (types part) (types env) || shares (values part) (values env)) h in
    record {
      structures = first.0;
      types = (or_none (shares (types part) (types env)) (shares (values part) (values env)) first.1).0;
    }

structures_are : (env part : Env) (n : List ℕ)
    → entry n (structures (modified_by env part)) ≡ entry n (with_all (structures part) (structures env))
structures_are env part n = ap (entry n) (keeps_structures.table (with_all (structures part) (structures env)))

at_first : (name : TyName) (path : List (List ℕ)) (env part : Env) → Apart part env → StandsAt name path env
    → StandsAt name path (modified_by env part)
at_first name [] env part a h = absurd h
at_first name (n ∷ []) env part a h = found_by (IsOfName name) (entry n (types env))
    (entry n (with_all (types part) (types env)))
    (λ x e. of_table_counts n x (types part) (types env) a.types e) h
at_first name (n ∷ m ∷ rest) env part a h = found_by (StandsAt name (m ∷ rest)) (entry n (structures env))
    (entry n (structures (modified_by env part)))
    (λ x e. structures_are env part n ∙ of_table_counts n x (structures part) (structures env) a.structures e) h

at_second : (name : TyName) (path : List (List ℕ)) (env part : Env) → RisingEnv part → StandsAt name path part
    → StandsAt name path (modified_by env part)
at_second name [] env part r h = absurd h
at_second name (n ∷ []) env part r h = found_by (IsOfName name) (entry n (types part))
    (entry n (with_all (types part) (types env)))
    (λ x e. of_rows_counts n x (types part) (types env) (rising_types part r).0 e) h
at_second name (n ∷ m ∷ rest) env part r h = found_by (StandsAt name (m ∷ rest)) (entry n (structures part))
    (entry n (structures (modified_by env part)))
    (λ x e. structures_are env part n
    ∙ of_rows_counts n x (structures part) (structures env) (rising_structures part r).0 e) h

-- names stand where more is specified, of which no name is there before
pub stands_before : (name : TyName) (env part : Env) → have_common part env ≡ false → Stands env name
    → Stands (modified_by env part) name
stands_before name env part h k = (k.0, at_first name k.0 env part (apart_is part env h) k.1)

pub stands_more : (name : TyName) (env part : Env) → RisingEnv part → Stands part name
    → Stands (modified_by env part) name
stands_more name env part r k = (k.0, at_second name k.0 env part r k.1)

pub all_before : (names : List TyName) (env part : Env) → have_common part env ≡ false
    → AllItems (Stands env) names → AllItems (Stands (modified_by env part)) names
all_before [] env part h k = tt
all_before (name ∷ names) env part h k = (stands_before name env part h k.0, all_before names env part h k.1)

pub all_more : (names : List TyName) (env part : Env) → RisingEnv part → AllItems (Stands part) names
    → AllItems (Stands (modified_by env part)) names
all_more [] env part r k = tt
all_more (name ∷ names) env part r k = (stands_more name env part r k.0, all_more names env part r k.1)

pub all_after : (P : TyName → Type 0) (first second : List TyName) → AllItems P first → AllItems P second
    → AllItems P (first ++ second)
all_after P [] second h k = k
all_after P (name ∷ first) second h k = (h.0, all_after P first second h.1 k)

-- ---- names that are replaced

structures_changed : (c : Change) (ss : Structures)
    → table_of (changed_structures c ss) ≡ each_row (changed c) (table_of ss)
structures_changed c Structures.Nil = refl
structures_changed c (Structures.Cons name env rest) =
    ap (λ z. (name, changed c env) ∷ z) (structures_changed c rest)

-- what a name alone becomes
abbrev Becomes : Realisation → TyName → TyName → Type 0
Becomes φ name new = (f : TypeFn) → name_alone f ≡ Some name → name_alone (realised_function φ f) ≡ Some new

at_realised : (φ : Realisation) (name new : TyName) (path : List (List ℕ)) (env : Env) → Becomes φ name new
    → StandsAt name path env → StandsAt new path (realised φ env)
at_realised φ name new [] env b h = absurd h
at_realised φ name new (n ∷ []) (Env.MakeEnv ss ts vs) b h =
    found_changed (changed_type (by_types (realised_tree φ))) (IsOfName name) (IsOfName new) n ts
    (λ str k. b str.function k) h
at_realised φ name new (n ∷ m ∷ rest) (Env.MakeEnv ss ts vs) b h =
    subst (λ z. IsFound (StandsAt new (m ∷ rest)) (entry n z))
    (sym (structures_changed (by_types (realised_tree φ)) ss))
    (found_changed (changed (by_types (realised_tree φ))) (StandsAt name (m ∷ rest)) (StandsAt new (m ∷ rest)) n
    (table_of ss) (λ env k. at_realised φ name new (m ∷ rest) env b k) h)

stands_realised : (φ : Realisation) (name new : TyName) (env : Env) → Becomes φ name new → Stands env name
    → Stands (realised φ env) new
stands_realised φ name new env b h = (h.0, at_realised φ name new h.0 env b h.1)

-- ---- numbers that rise

-- names with rising numbers, from one on up to below another
abbrev pub Ascend : ℕ → List TyName → ℕ → Type 0
Ascend from [] to = from ≤ to
Ascend from (name ∷ names) to = (from ≤ name.number) × Ascend (suc name.number) names to

pub ascend_bound : (from : ℕ) (names : List TyName) (to : ℕ) → Ascend from names to → from ≤ to
ascend_bound from [] to h = h
ascend_bound from (name ∷ names) to h =
    let k : suc name.number ≤ to = ascend_bound (suc name.number) names to h.1 in omega (arith, h.0, k)

pub ascend_later : (from : ℕ) (names : List TyName) (to more : ℕ) → Ascend from names to → to ≤ more
    → Ascend from names more
ascend_later from [] to more h k = omega (arith, h, k)
ascend_later from (name ∷ names) to more h k = (h.0, ascend_later (suc name.number) names to more h.1 k)

pub ascend_sooner : (less from : ℕ) (names : List TyName) (to : ℕ) → less ≤ from → Ascend from names to
    → Ascend less names to
ascend_sooner less from [] to k h = omega (arith, h, k)
ascend_sooner less from (name ∷ names) to k h = (omega (arith, h.0, k), h.1)

pub ascend_then : (a : ℕ) (first : List TyName) (b : ℕ) (second : List TyName) (c : ℕ) → Ascend a first b
    → Ascend b second c → Ascend a (first ++ second) c
ascend_then a [] b second c h k = ascend_sooner a b second c h k
ascend_then a (name ∷ first) b second c h k = (h.0, ascend_then (suc name.number) first b second c h.1 k)

filtered : (from : ℕ) (name : TyName) (b : Bool) (rest : List TyName) (to : ℕ) → from ≤ name.number
    → Ascend (suc name.number) rest to → Ascend from (cond b (name ∷ rest) rest) to
filtered from name true rest to h k = (h, k)
filtered from name false rest to h k = ascend_sooner from (suc name.number) rest to (omega (arith, h)) k

pub ascend_filter : (p : TyName → Bool) (from : ℕ) (names : List TyName) (to : ℕ) → Ascend from names to
    → Ascend from (filter p names) to
ascend_filter p from [] to h = h
ascend_filter p from (name ∷ names) to h = filtered from name (p name) (filter p names) to h.0
    (ascend_filter p (suc name.number) names to h.1)

-- ---- other names for those of a signature

same_number : (m n : TyName) → same_name m n ≡ true → m.number ≡ n.number
same_number m n h = ap (λ (z : TyName). z.number) (name_is m n h)

above : (from : ℕ) (m : TyName) (names : List TyName) (to : ℕ) → Ascend from names to
    → AllItems (λ (n : TyName). from ≤ n.number) names
above from m [] to h = tt
above from m (name ∷ names) to h =
    (h.0, more (suc name.number) from names (omega (arith, h.0)) (above (suc name.number) m names to h.1))
  where
    more : (k from : ℕ) (names : List TyName) → from ≤ k → AllItems (λ (n : TyName). k ≤ n.number) names
        → AllItems (λ (n : TyName). from ≤ n.number) names
    more k from [] l i = tt
    more k from (n ∷ names) l i = (omega (arith, l, i.0), more k from names l i.1)

false_of : (b : Bool) → (b ≡ true → ⊥) → b ≡ false
false_of true h = absurd (h refl)
false_of false h = refl

-- the two lists beside each other, each old name with the function that is put for it
abbrev ArePut : Realisation → List TyName → List TyName → Type 0
ArePut φ [] news = Unit {0}
ArePut φ (old ∷ olds) [] = ⊥
ArePut φ (old ∷ olds) (new ∷ news) =
    (φ old ≡ Some (own_type new).function) × (new.arity ≡ old.arity) × ArePut φ olds news

-- the same arities, one for one
abbrev pub SameArities : List TyName → List TyName → Type 0
SameArities [] news = Unit {0}
SameArities (old ∷ olds) [] = ⊥
SameArities (old ∷ olds) (new ∷ news) = (new.arity ≡ old.arity) × SameArities olds news

skipped : (old m : TyName) (f : TypeFn) (rows : List (TyName × TypeFn)) → same_name old m ≡ false
    → of_rows ((old, f) ∷ rows) m ≡ of_rows rows m
skipped old m f rows h = rw h

-- rows behind one whose name they don't have
put_behind : (old : TyName) (f : TypeFn) (rows : List (TyName × TypeFn)) (olds news : List TyName)
    → AllItems (λ (n : TyName). suc old.number ≤ n.number) olds → ArePut (of_rows rows) olds news
    → ArePut (of_rows ((old, f) ∷ rows)) olds news
put_behind old f rows [] news h k = tt
put_behind old f rows (m ∷ olds) [] h k = absurd k
put_behind old f rows (m ∷ olds) (new ∷ news) h k = (
  skipped old m f rows (false_of (same_name old m) (λ e. let l : old.number ≡ m.number = same_number old m e in
      absurd (omega (arith, h.0, l)))) ∙ k.0,
  k.1,
  put_behind old f rows olds news h.1 k.2,
)

are_put : (from : ℕ) (olds news : List TyName) (to : ℕ) → Ascend from olds to → SameArities olds news
    → ArePut (of_rows (rows_between olds news)) olds news
are_put from [] news to h k = tt
are_put from (old ∷ olds) [] to h k = absurd k
are_put from (old ∷ olds) (new ∷ news) to h k = (
  rw (name_same old),
  k.0,
  put_behind old (own_type new).function (rows_between olds news) olds news (above (suc old.number) old olds to h.1)
      (are_put (suc old.number) olds news to h.1 k.1),
)

all_put : (φ : Realisation) (olds news : List TyName) (env : Env) → length news ≡ length olds → ArePut φ olds news
    → AllItems (Stands env) olds → AllItems (Stands (realised φ env)) news
all_put φ [] [] env e h k = tt
all_put φ [] (new ∷ news) env e h k = absurd (omega (arith, (let l : suc (length news) ≡ 0 = e in l)))
all_put φ (old ∷ olds) [] env e h k = absurd h
all_put φ (old ∷ olds) (new ∷ news) env e h k = (
  stands_realised φ old new env (λ f l. put_other φ f old new l h.0 h.1) k.0,
  all_put φ olds news env (let l : suc (length news) ≡ suc (length olds) = e in omega (arith, l)) h.2 k.1,
)

-- names of rising numbers that stand, and the same number of others in their places
pub all_renamed : (from : ℕ) (olds news : List TyName) (to : ℕ) (env : Env) → Ascend from olds to
    → length news ≡ length olds → SameArities olds news → AllItems (Stands env) olds
    → AllItems (Stands (realised (of_rows (rows_between olds news)) env)) news
all_renamed from olds news to env h e k l =
    all_put (of_rows (rows_between olds news)) olds news env e (are_put from olds news to h k) l

-- ---- a function for one of the names

kept_or : (name m : TyName) (by : TypeFn) (b : Bool) (rest : List TyName) (env : Env) → same_name name m ≡ b
    → Stands env m → AllItems (Stands (realised (of_rows ((name, by) ∷ [])) env)) rest
    → AllItems (Stands (realised (of_rows ((name, by) ∷ [])) env)) (cond (not b) (m ∷ rest) rest)
kept_or name m by true rest env e h k = k
kept_or name m by false rest env e h k = (
  stands_realised (of_rows ((name, by) ∷ [])) m m env
      (λ f l. put_same (of_rows ((name, by) ∷ [])) f m l (rw e)) h,
  k,
)

pub all_others : (name : TyName) (by : TypeFn) (names : List TyName) (env : Env) → AllItems (Stands env) names
    → AllItems (Stands (realised (of_rows ((name, by) ∷ [])) env)) (filter (λ m. not (same_name name m)) names)
all_others name by [] env h = tt
all_others name by (m ∷ names) env h =
    kept_or name m by (same_name name m) (filter (λ n. not (same_name name n)) names) env refl h.0
    (all_others name by names env h.1)
