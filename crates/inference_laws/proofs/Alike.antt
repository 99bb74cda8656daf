-- Tables, answers and environments that are alike.
use Rattle.std.proofs.Common.{◌≡◌, ℕ, List, [], ◌∷◌, ◌++◌, refl, ap, ◌∙◌, subst, Option, Some, None, Bool, true, false, cond}
use Rattle.std.specs.Prelude.{Ok, Err}
use Rattle.std.specs.Option.{is_some}
use Rattle.std.specs.FinMap.Entries.{by_order}
use Rattle.std.specs.Ordering.{eq_by_cmp}
use Rattle.std.specs.declared.cmp.Ordering.{Ordering}
use Rattle.std.specs.declared.cmp.Ordering.TheVariants as ordering
use Rattle.sml_trees.specs.declared.name.At.{At}
use Rattle.sml_trees.specs.declared.name.LongName.{LongName}
use Rattle.semantic_objects.specs.declared.entry.TypeStr.{TypeStr}
use Rattle.semantic_objects.specs.declared.entry.ValueEntry.{ValueEntry}
use Rattle.semantic_objects.specs.Symbols.{same_text}
use Rattle.semantic_objects.specs.Tables.{Table, by_bytes, entry, with_entry, with_all}
use Rattle.semantic_objects.specs.Environments.{Env, Structures, table_of, structures_of, structures, types, values, empty_env, with_type, with_value, modified_by}
use Rattle.static_semantics.specs.Inferring.{Progress, Scope, Answer, ◌>>=◌, refuses_where, known, found_at, found_in_structure, named, is_named}
use Rattle.static_semantics.specs.Holding.{Given}
use Rattle.inference_laws.specs.Alike.{RowsAlike, Both, EnvsAlike, StructuresAlike, in_env}

-- ---- answers

-- one answer, and then what is alike
same_on : {A B : Type 0} (G : A → Type 0) (Q : B → B → Type 0) (m : Answer A) (f g : A → Answer B) → Given G m
    → ((x : A) → G x → Both Q (f x) (g x)) → Both Q (m >>= f) (m >>= g)
same_on G Q None f g h k = tt
same_on G Q (Some (Err d)) f g h k = refl
same_on G Q (Some (Ok x)) f g h k = k x h

pub same_then : {A B : Type 0} (G : A → Type 0) (Q : B → B → Type 0) (m n : Answer A) (f g : A → Answer B) → m ≡ n
    → Given G m → ((x : A) → G x → Both Q (f x) (g x)) → Both Q (m >>= f) (n >>= g)
same_then G Q m n f g e h k = subst (λ z. Both Q (m >>= f) (z >>= g)) e (same_on G Q m f g h k)

-- equal answers, one after another
pub both_same : {A B : Type 0} (m n : Answer A) (f g : A → Answer B) → m ≡ n → ((x : A) → f x ≡ g x)
    → (m >>= f) ≡ (n >>= g)
both_same m n f g e h = ap (λ z. z >>= f) e ∙ on n f g h where
  on : {A B : Type 0} (n : Answer A) (f g : A → Answer B) → ((x : A) → f x ≡ g x) → (n >>= f) ≡ (n >>= g)
  on None f g h = refl
  on (Some (Err d)) f g h = refl
  on (Some (Ok x)) f g h = h x

-- answers with a state that is the same
abbrev pub AtState : {A : Type 0} → (Progress → A → A → Type 0) → A × Progress → A × Progress → Type 0
AtState R x y = (x.1 ≡ y.1) × R x.1 x.0 y.0

pub both_then : {A B : Type 0} (G : A × Progress → Type 0) (R : Progress → A → A → Type 0) (Q : B → B → Type 0)
    (m n : Answer (A × Progress)) (f g : A × Progress → Answer B) → Given G m → Both (AtState R) m n
    → ((a b : A) (u : Progress) → G (a, u) → R u a b → Both Q (f (a, u)) (g (b, u))) → Both Q (m >>= f) (n >>= g)
both_then G R Q None None f g h k l = tt
both_then G R Q None (Some y) f g h k l = absurd k
both_then G R Q (Some (Err d)) None f g h k l = absurd k
both_then G R Q (Some (Ok x)) None f g h k l = absurd k
both_then G R Q (Some (Err d)) (Some (Err e)) f g h k l = k
both_then G R Q (Some (Err d)) (Some (Ok y)) f g h k l = absurd k
both_then G R Q (Some (Ok x)) (Some (Err e)) f g h k l = absurd k
both_then G R Q (Some (Ok x)) (Some (Ok y)) f g h k l =
    subst (λ z. Both Q (f x) (g (y.0, z))) k.0 (l x.0 y.0 x.1 h k.1)

-- answers without a state
pub both_plain : {A B : Type 0} (G : A → Type 0) (R : A → A → Type 0) (Q : B → B → Type 0) (m n : Answer A)
    (f g : A → Answer B) → Given G m → Both R m n → ((a b : A) → G a → R a b → Both Q (f a) (g b))
    → Both Q (m >>= f) (n >>= g)
both_plain G R Q None None f g h k l = tt
both_plain G R Q None (Some y) f g h k l = absurd k
both_plain G R Q (Some (Err d)) None f g h k l = absurd k
both_plain G R Q (Some (Ok x)) None f g h k l = absurd k
both_plain G R Q (Some (Err d)) (Some (Err e)) f g h k l = k
both_plain G R Q (Some (Err d)) (Some (Ok y)) f g h k l = absurd k
both_plain G R Q (Some (Ok x)) (Some (Err e)) f g h k l = absurd k
both_plain G R Q (Some (Ok x)) (Some (Ok y)) f g h k l = l x y h k

-- answers of three parts
abbrev pub AtState3 : {A B : Type 0} → (Progress → A → A → B → B → Type 0) → A × B × Progress → A × B × Progress → Type
    0
AtState3 R x y = (x.2 ≡ y.2) × R x.2 x.0 y.0 x.1 y.1

pub both_then3 : {A B C : Type 0} (G : A × B × Progress → Type 0) (R : Progress → A → A → B → B → Type 0)
    (Q : C → C → Type 0) (m n : Answer (A × B × Progress)) (f g : A × B × Progress → Answer C) → Given G m
    → Both (AtState3 R) m n
    → ((a b : A) (c d : B) (u : Progress) → G (a, c, u) → R u a b c d → Both Q (f (a, c, u)) (g (b, d, u)))
    → Both Q (m >>= f) (n >>= g)
both_then3 G R Q None None f g h k l = tt
both_then3 G R Q None (Some y) f g h k l = absurd k
both_then3 G R Q (Some (Err d)) None f g h k l = absurd k
both_then3 G R Q (Some (Ok x)) None f g h k l = absurd k
both_then3 G R Q (Some (Err d)) (Some (Err e)) f g h k l = k
both_then3 G R Q (Some (Err d)) (Some (Ok y)) f g h k l = absurd k
both_then3 G R Q (Some (Ok x)) (Some (Err e)) f g h k l = absurd k
both_then3 G R Q (Some (Ok x)) (Some (Ok y)) f g h k l =
    subst (λ z. Both Q (f x) (g (y.0, y.1, z))) k.0 (l x.0 y.0 x.1 y.1 x.2 h k.1)

-- a check on the way
where_on : {B : Type 0} (Q : B → B → Type 0) (c : Bool) (number : ℕ) (sc : Scope) (f : Env) (at : At)
    (next more : Unit {0} → Answer B) → Both Q (next tt) (more tt)
    → Both Q (refuses_where c number sc at >>= next) (refuses_where c number (in_env f sc) at >>= more)
where_on Q true number sc f at next more h = refl
where_on Q false number sc f at next more h = h

pub both_where : {B : Type 0} (Q : B → B → Type 0) (c d : Bool) (number : ℕ) (sc : Scope) (f : Env) (at : At)
    (next more : Unit {0} → Answer B) → c ≡ d → Both Q (next tt) (more tt)
    → Both Q (refuses_where c number sc at >>= next) (refuses_where d number (in_env f sc) at >>= more)
both_where Q c d number sc f at next more e h =
    subst (λ z. Both Q (refuses_where c number sc at >>= next) (refuses_where z number (in_env f sc) at >>= more)) e
    (where_on Q c number sc f at next more h)

pub both_more : {A : Type 0} (R Q : A → A → Type 0) (m n : Answer A) → ((x y : A) → R x y → Q x y) → Both R m n
    → Both Q m n
both_more R Q None None f h = tt
both_more R Q None (Some y) f h = absurd h
both_more R Q (Some (Err d)) None f h = absurd h
both_more R Q (Some (Ok x)) None f h = absurd h
both_more R Q (Some (Err d)) (Some (Err e)) f h = h
both_more R Q (Some (Err d)) (Some (Ok y)) f h = absurd h
both_more R Q (Some (Ok x)) (Some (Err e)) f h = absurd h
both_more R Q (Some (Ok x)) (Some (Ok y)) f h = f x y h

-- ---- options

abbrev pub Found : {A : Type 0} → (A → A → Type 0) → Option A → Option A → Type 0
Found R None None = Unit {0}
Found R None (Some y) = ⊥
Found R (Some x) None = ⊥
Found R (Some x) (Some y) = R x y

pub found_same : {A : Type 0} (o p : Option A) → Found (λ x y. x ≡ y) o p → o ≡ p
found_same None None h = refl
found_same None (Some y) h = absurd h
found_same (Some x) None h = absurd h
found_same (Some x) (Some y) h = ap Some h

pub found_some : {A : Type 0} (R : A → A → Type 0) (o p : Option A) → Found R o p → is_some o ≡ is_some p
found_some R None None h = refl
found_some R None (Some y) h = absurd h
found_some R (Some x) None h = absurd h
found_some R (Some x) (Some y) h = refl

pub both_known : {A : Type 0} (R : A → A → Type 0) (sc : Scope) (f : Env) (long : LongName) (o p : Option A)
    → Found R o p → Both R (known sc long o) (known (in_env f sc) long p)
both_known R sc f long None None h = refl
both_known R sc f long None (Some y) h = absurd h
both_known R sc f long (Some x) None h = absurd h
both_known R sc f long (Some x) (Some y) h = h

-- ---- tables

module _ {A : Type 0} (R : A → A → Type 0) where
  alike_order : (o : Ordering) (a b c d e f : Table A) → RowsAlike R a d → RowsAlike R b e → RowsAlike R c f
      → RowsAlike R (by_order o a b c) (by_order o d e f)
  alike_order ordering.Less a b c d e f h k l = h
  alike_order ordering.Equal a b c d e f h k l = k
  alike_order ordering.Greater a b c d e f h k l = l

  pub rows_alike_with : (name : List ℕ) (x y : A) (xs ys : Table A) → R x y → RowsAlike R xs ys
      → RowsAlike R (with_entry name x xs) (with_entry name y ys)
  rows_alike_with name x y [] [] h k = (refl, h, tt)
  rows_alike_with name x y [] (row ∷ ys) h k = absurd k
  rows_alike_with name x y (row ∷ xs) [] h k = absurd k
  rows_alike_with name x y (row ∷ xs) (other ∷ ys) h k =
      subst (λ o. RowsAlike R (with_entry name x (row ∷ xs))
      (by_order o ((name, y) ∷ other ∷ ys) ((other.0, y) ∷ ys) (other ∷ with_entry name y ys)))
      (ap (by_bytes name) k.0)
      (alike_order (by_bytes name row.0) ((name, x) ∷ row ∷ xs) ((row.0, x) ∷ xs) (row ∷ with_entry name x xs)
      ((name, y) ∷ other ∷ ys) ((other.0, y) ∷ ys) (other ∷ with_entry name y ys)
      (refl, h, k) (k.0, h, k.2) (k.0, k.1, rows_alike_with name x y xs ys h k.2))

  pub rows_alike_with_all : (xs ys table other : Table A) → RowsAlike R xs ys → RowsAlike R table other
      → RowsAlike R (with_all xs table) (with_all ys other)
  rows_alike_with_all [] [] table other h k = k
  rows_alike_with_all [] (y ∷ ys) table other h k = absurd h
  rows_alike_with_all (x ∷ xs) [] table other h k = absurd h
  rows_alike_with_all (x ∷ xs) (y ∷ ys) table other h k =
      rows_alike_with_all xs ys (with_entry x.0 x.1 table) (with_entry y.0 y.1 other) h.2
      (subst (λ z. RowsAlike R (with_entry x.0 x.1 table) (with_entry z y.1 other)) h.0
      (rows_alike_with x.0 x.1 y.1 table other h.1 k))

  found_or : (c : Bool) (x y : A) (o p : Option A) → R x y → Found R o p
      → Found R (cond c (Some x) o) (cond c (Some y) p)
  found_or true x y o p h k = h
  found_or false x y o p h k = k

  pub rows_alike_found : (name : List ℕ) (xs ys : Table A) → RowsAlike R xs ys
      → Found R (entry name xs) (entry name ys)
  rows_alike_found name [] [] h = tt
  rows_alike_found name [] (y ∷ ys) h = absurd h
  rows_alike_found name (x ∷ xs) [] h = absurd h
  rows_alike_found name (x ∷ xs) (y ∷ ys) h =
      subst (λ c. Found R (entry name (x ∷ xs)) (cond c (Some y.1) (entry name ys)))
      (ap (eq_by_cmp by_bytes name) h.0)
      (found_or (eq_by_cmp by_bytes name x.0) x.1 y.1 (entry name xs) (entry name ys) h.1
      (rows_alike_found name xs ys h.2))

  pub rows_alike_after : (xs ys first second : Table A) → RowsAlike R xs ys → RowsAlike R first second
      → RowsAlike R (xs ++ first) (ys ++ second)
  rows_alike_after [] [] first second h k = k
  rows_alike_after [] (y ∷ ys) first second h k = absurd h
  rows_alike_after (x ∷ xs) [] first second h k = absurd h
  rows_alike_after (x ∷ xs) (y ∷ ys) first second h k = (h.0, h.1, rows_alike_after xs ys first second h.2 k)

  named_or : (name : List ℕ) (xs ys : Table A) → RowsAlike R xs ys → is_named name xs ≡ is_named name ys
  named_or name [] [] h = refl
  named_or name [] (y ∷ ys) h = absurd h
  named_or name (x ∷ xs) [] h = absurd h
  named_or name (x ∷ xs) (y ∷ ys) h =
      found_some (λ a b. Unit {0}) (named name (x ∷ xs)) (named name (y ∷ ys))
      (subst (λ c. Found (λ a b. Unit {0}) (named name (x ∷ xs)) (cond c (Some y.1) (named name ys)))
      (ap (same_text name) h.0)
      (one_or (same_text name x.0) x.1 y.1 (named name xs) (named name ys) (named_or name xs ys h.2)))
    where
      pairs : (o p : Option A) → is_some o ≡ is_some p → Found (λ a b. Unit {0}) o p
      pairs None None e = tt
      pairs None (Some b) e = absurd (cc)
      pairs (Some a) None e = absurd (cc)
      pairs (Some a) (Some b) e = tt

      one_or : (c : Bool) (a b : A) (o p : Option A) → is_some o ≡ is_some p
          → Found (λ a b. Unit {0}) (cond c (Some a) o) (cond c (Some b) p)
      one_or true a b o p e = tt
      one_or false a b o p e = pairs o p e

  pub rows_alike_named : (name : List ℕ) (xs ys : Table A) → RowsAlike R xs ys → is_named name xs ≡ is_named name ys
  rows_alike_named = named_or

pub rows_alike_more : {A : Type 0} (R Q : A → A → Type 0) (xs ys : Table A) → ((x y : A) → R x y → Q x y)
    → RowsAlike R xs ys → RowsAlike Q xs ys
rows_alike_more R Q [] [] f h = tt
rows_alike_more R Q [] (y ∷ ys) f h = absurd h
rows_alike_more R Q (x ∷ xs) [] f h = absurd h
rows_alike_more R Q (x ∷ xs) (y ∷ ys) f h = (h.0, f x.1 y.1 h.1, rows_alike_more R Q xs ys f h.2)

-- ---- environments

module _ (V : ValueEntry → ValueEntry → Type 0) (T : TypeStr → TypeStr → Type 0) where
  alike_table : (ss rs : Structures) → StructuresAlike V T ss rs → RowsAlike (EnvsAlike V T) (table_of ss) (table_of rs)
  alike_table Structures.Nil Structures.Nil h = tt
  alike_table Structures.Nil (Structures.Cons n f others) h = absurd h
  alike_table (Structures.Cons m e rest) Structures.Nil h = absurd h
  alike_table (Structures.Cons m e rest) (Structures.Cons n f others) h = (h.0, h.1, alike_table rest others h.2)

  alike_parts : (xs ys : Table Env) → RowsAlike (EnvsAlike V T) xs ys
      → StructuresAlike V T (structures_of xs) (structures_of ys)
  alike_parts [] [] h = tt
  alike_parts [] (y ∷ ys) h = absurd h
  alike_parts (x ∷ xs) [] h = absurd h
  alike_parts (x ∷ xs) (y ∷ ys) h = (h.0, h.1, alike_parts xs ys h.2)

  pub alike_structures : (e f : Env) → EnvsAlike V T e f → RowsAlike (EnvsAlike V T) (structures e) (structures f)
  alike_structures (Env.MakeEnv ss ts vs) (Env.MakeEnv rs us ws) h = alike_table ss rs h.0

  pub alike_types : (e f : Env) → EnvsAlike V T e f → RowsAlike T (types e) (types f)
  alike_types (Env.MakeEnv ss ts vs) (Env.MakeEnv rs us ws) h = h.1

  pub alike_values : (e f : Env) → EnvsAlike V T e f → RowsAlike V (values e) (values f)
  alike_values (Env.MakeEnv ss ts vs) (Env.MakeEnv rs us ws) h = h.2

  pub alike_nothing : EnvsAlike V T empty_env empty_env
  alike_nothing = (tt, tt, tt)

  pub alike_with_type : (name : List ℕ) (x y : TypeStr) (e f : Env) → T x y → EnvsAlike V T e f
      → EnvsAlike V T (with_type name x e) (with_type name y f)
  alike_with_type name x y e f h k = (
    alike_parts (structures e) (structures f) (alike_structures e f k),
    rows_alike_with T name x y (types e) (types f) h (alike_types e f k),
    alike_values e f k,
  )

  pub alike_with_value : (name : List ℕ) (x y : ValueEntry) (e f : Env) → V x y → EnvsAlike V T e f
      → EnvsAlike V T (with_value name x e) (with_value name y f)
  alike_with_value name x y e f h k = (
    alike_parts (structures e) (structures f) (alike_structures e f k),
    alike_types e f k,
    rows_alike_with V name x y (values e) (values f) h (alike_values e f k),
  )

  pub alike_modified : (e f d g : Env) → EnvsAlike V T e f → EnvsAlike V T d g
      → EnvsAlike V T (modified_by e d) (modified_by f g)
  alike_modified e f d g h k = (
    alike_parts (with_all (structures d) (structures e)) (with_all (structures g) (structures f))
        (rows_alike_with_all (EnvsAlike V T) (structures d) (structures g) (structures e) (structures f)
        (alike_structures d g k) (alike_structures e f h)),
    rows_alike_with_all T (types d) (types g) (types e) (types f) (alike_types d g k) (alike_types e f h),
    rows_alike_with_all V (values d) (values g) (values e) (values f) (alike_values d g k) (alike_values e f h),
  )

-- what is found under a long name
in_structure : {A : Type 0} (E : Env → Env → Type 0) (R : A → A → Type 0) (o p : Option Env) (find : Env → Option A)
    → Found E o p → ((e f : Env) → E e f → Found R (find e) (find f))
    → Found R (found_in_structure o find) (found_in_structure p find)
in_structure E R None None find h k = tt
in_structure E R None (Some f) find h k = absurd h
in_structure E R (Some e) None find h k = absurd h
in_structure E R (Some e) (Some f) find h k = k e f h

pub alike_found : {A : Type 0} (V : ValueEntry → ValueEntry → Type 0) (T : TypeStr → TypeStr → Type 0)
    (R : A → A → Type 0) (table : Env → Table A)
    → ((e f : Env) → EnvsAlike V T e f → RowsAlike R (table e) (table f)) → (parts : List (List ℕ)) (e f : Env)
    → EnvsAlike V T e f → Found R (found_at table parts e) (found_at table parts f)
alike_found V T R table k [] e f h = tt
alike_found V T R table k (name ∷ []) e f h = rows_alike_found R name (table e) (table f) (k e f h)
alike_found V T R table k (name ∷ next ∷ rest) e f h = in_structure (EnvsAlike V T) R (entry name (structures e))
    (entry name (structures f)) (found_at table (next ∷ rest))
    (rows_alike_found (EnvsAlike V T) name (structures e) (structures f) (alike_structures V T e f h))
    (λ a b i. alike_found V T R table k (next ∷ rest) a b i)

-- what is weaker holds too
module _ (V W : ValueEntry → ValueEntry → Type 0) (T U : TypeStr → TypeStr → Type 0)
    (f : (x y : ValueEntry) → V x y → W x y) (g : (x y : TypeStr) → T x y → U x y) where
  mutual
    pub envs_alike_more : (d e : Env) → EnvsAlike V T d e → EnvsAlike W U d e
    envs_alike_more (Env.MakeEnv ss ts vs) (Env.MakeEnv rs us ws) h = (
      structures_alike_more ss rs h.0,
      rows_alike_more T U ts us g h.1,
      rows_alike_more V W vs ws f h.2,
    )

    structures_alike_more : (ss rs : Structures) → StructuresAlike V T ss rs → StructuresAlike W U ss rs
    structures_alike_more Structures.Nil Structures.Nil h = tt
    structures_alike_more Structures.Nil (Structures.Cons n e others) h = absurd h
    structures_alike_more (Structures.Cons m d rest) Structures.Nil h = absurd h
    structures_alike_more (Structures.Cons m d rest) (Structures.Cons n e others) h =
        (h.0, envs_alike_more d e h.1, structures_alike_more rest others h.2)

-- an environment is like itself where its entries are
module _ (V : ValueEntry → ValueEntry → Type 0) (T : TypeStr → TypeStr → Type 0) (f : (x : ValueEntry) → V x x)
    (g : (x : TypeStr) → T x x) where
  rows_itself : {A : Type 0} (R : A → A → Type 0) (xs : Table A) → ((x : A) → R x x) → RowsAlike R xs xs
  rows_itself R [] h = tt
  rows_itself R (x ∷ xs) h = (refl, h x.1, rows_itself R xs h)

  mutual
    pub env_itself : (e : Env) → EnvsAlike V T e e
    env_itself (Env.MakeEnv ss ts vs) = (structures_itself ss, rows_itself T ts g, rows_itself V vs f)

    structures_itself : (ss : Structures) → StructuresAlike V T ss ss
    structures_itself Structures.Nil = tt
    structures_itself (Structures.Cons n e rest) = (refl, env_itself e, structures_itself rest)
