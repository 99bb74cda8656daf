-- Closing by age is closing by what is free in the environment and in what is written around.
use Rattle.std.proofs.Common.{◌≡◌, ℕ, ◌<◌, ◌≤◌, List, [], ◌∷◌, ◌++◌, refl, sym, ap, ◌∙◌, subst, arith, Bool, true, false, ◌||◌, not}
use Rattle.std.specs.Prelude.{ltb}
use Rattle.std.specs.List.{list_any}
use Rattle.std.proofs.lemmas.Bool.{eq-eqb, eqb-true, ltb-true, ltb-false}
use Rattle.semantic_objects.specs.declared.entry.ConEntry.{ConEntry}
use Rattle.semantic_objects.specs.declared.entry.TypeFn.{TypeFn}
use Rattle.semantic_objects.specs.declared.entry.TypeStr.{TypeStr}
use Rattle.semantic_objects.specs.declared.entry.ValueEntry.{ValueEntry}
use Rattle.semantic_objects.specs.Tables.{Table}
use Rattle.semantic_objects.specs.Trees.{Tree, TypeScheme}
use Rattle.semantic_objects.specs.Environments.{Env, Structures}
use Rattle.unification.specs.Types.{Ty, Types, Substitution, State, put, put_all, occurs, occurs_any}
use Rattle.unification.specs.Unification.{IsSettled}
use Rattle.unification.specs.Touching.{Touches}
use Rattle.unification.specs.Closing.{held_below, kept_since}
use Rattle.unification.specs.Fitting.{IsBelow, IsFit}
use Rattle.unification.proofs.Putting.{either_way, or_either, or_left, or_right, put_solved}
use Rattle.unification.proofs.Untouched.{put_changed}
use Rattle.unification.proofs.Filling.{put_fill}
use Rattle.unification.proofs.Promised.{closes_types}
use Rattle.static_semantics.specs.BasicTypes.{unit_ty}
use Rattle.static_semantics.specs.Inferring.{Progress, Scope, seen, bodies, structure_bodies, type_bodies, con_bodies, value_bodies, free_in_env, free_in_written, is_kept}
use Rattle.static_semantics.specs.Holding.{AllItems, AllRows, ConHas, TypeHas, ValueHas, EnvHas, StructuresHave}
use Rattle.static_semantics.specs.Growing.{TyIn, SchemeIn, FunctionIn, ScopeIn, Grows, IsReady}
use Rattle.static_semantics.proofs.Holding.{items_more, env_more}

-- ---- what occurs where

mutual
  occurs_from : (v : ℕ) (f : Substitution) (t : Ty) → occurs v (put f t) ≡ true
      → (m : ℕ) × (occurs m t ≡ true) × (occurs v (f m) ≡ true)
  occurs_from v f (Ty.Var m) h = (m, eq-eqb m m refl, h)
  occurs_from v f (Ty.Made c ts) h = occurs_from_all v f ts h

  occurs_from_all : (v : ℕ) (f : Substitution) (ts : Types) → occurs_any v (put_all f ts) ≡ true
      → (m : ℕ) × (occurs_any m ts ≡ true) × (occurs v (f m) ≡ true)
  occurs_from_all v f Types.Nil h = absurd (cc)
  occurs_from_all v f (Types.Cons t ts) h = or_either _ _ h
      (λ i. let k = occurs_from v f t i in (k.0, or_left _ _ k.1, k.2))
      (λ i. let k = occurs_from_all v f ts i in (k.0, or_right _ _ k.1, k.2))

mutual
  occurs_put : (v m : ℕ) (f : Substitution) (t : Ty) → occurs m t ≡ true → occurs v (f m) ≡ true
      → occurs v (put f t) ≡ true
  occurs_put v m f (Ty.Var n) h k = subst (λ z. occurs v (f z) ≡ true) (eqb-true m n h) k
  occurs_put v m f (Ty.Made c ts) h k = occurs_put_all v m f ts h k

  occurs_put_all : (v m : ℕ) (f : Substitution) (ts : Types) → occurs_any m ts ≡ true → occurs v (f m) ≡ true
      → occurs_any v (put_all f ts) ≡ true
  occurs_put_all v m f Types.Nil h k = absurd (cc)
  occurs_put_all v m f (Types.Cons t ts) h k = or_either _ _ h
      (λ i. or_left _ _ (occurs_put v m f t i k))
      (λ i. or_right _ _ (occurs_put_all v m f ts i k))

-- a variable of a type that nothing changes stands for itself
mutual
  fixed_at : (v : ℕ) (f : Substitution) (t : Ty) → put f t ≡ t → occurs v t ≡ true → f v ≡ Ty.Var v
  fixed_at v f (Ty.Var n) e h = let k : v ≡ n = eqb-true v n h in ap f k ∙ e ∙ ap Ty.Var (sym k)
  fixed_at v f (Ty.Made c ts) e h = fixed_at_all v f ts (let k : put_all f ts ≡ ts = cc in k) h

  fixed_at_all : (v : ℕ) (f : Substitution) (ts : Types) → put_all f ts ≡ ts → occurs_any v ts ≡ true → f v ≡ Ty.Var v
  fixed_at_all v f Types.Nil e h = absurd (cc)
  fixed_at_all v f (Types.Cons t ts) e h = or_either _ _ h
      (λ i. fixed_at v f t (let k : put f t ≡ t = cc in k) i)
      (λ i. fixed_at_all v f ts (let k : put_all f ts ≡ ts = cc in k) i)

pub known_itself : (s : State) (v : ℕ) (t : Ty) → IsSettled s → occurs v (put s.stands t) ≡ true → s.stands v ≡ Ty.Var v
known_itself s v t h e = fixed_at v s.stands (put s.stands t) (put_solved s s t h.solves) e

-- a tree as it is known is its type with everything put in
seen_put : (s : Substitution) (x : Tree) → seen s x ≡ put s (seen Ty.Var x)
seen_put s x = sym (put_fill s (λ i. unit_ty) Ty.Var x)

-- ---- lists of trees

any_from : {A : Type 0} (Q : Type 0) (R : A → Type 0) (test : A → Bool) (xs : List A) → AllItems R xs
    → list_any test xs ≡ true → ((x : A) → R x → test x ≡ true → Q) → Q
any_from Q R test [] h e k = absurd (cc)
any_from Q R test (x ∷ xs) h e k = or_either (test x) (list_any test xs) e (k x h.0)
    (λ i. any_from Q R test xs h.1 i k)

-- if one test holds of an item another one does, so it does of any
any_to : {A : Type 0} (R : A → Type 0) (first second : A → Bool) (xs : List A) → AllItems R xs
    → ((x : A) → R x → first x ≡ true → second x ≡ true) → list_any first xs ≡ true → list_any second xs ≡ true
any_to R first second [] h k e = absurd (cc)
any_to R first second (x ∷ xs) h k e = or_either (first x) (list_any first xs) e
    (λ i. or_left (second x) (list_any second xs) (k x h.0 i))
    (λ i. or_right (second x) (list_any second xs) (any_to R first second xs h.1 k i))

row_items : {A : Type 0} (R : A → Type 0) (rows : Table A) → AllRows R rows → AllItems (λ row. R row.1) rows
row_items R [] h = tt
row_items R (row ∷ rows) h = (h.0, row_items R rows h.1)

items_after : {A : Type 0} (R : A → Type 0) (first second : List A) → AllItems R first → AllItems R second
    → AllItems R (first ++ second)
items_after R [] second h k = k
items_after R (x ∷ xs) second h k = (h.0, items_after R xs second h.1 k)

-- what holds of an environment holds of its bodies, and the other way round
module _ (R : Tree → Type 0) where
  con_items : (cons : List ConEntry) → AllItems (ConHas (λ σ. R σ.body)) cons → AllItems R (con_bodies cons)
  con_items [] h = tt
  con_items (con ∷ cons) h = (h.0, con_items cons h.1)

  type_items : (rows : Table TypeStr) → AllRows (TypeHas (λ σ. R σ.body) (λ function. R function.body)) rows
      → AllItems R (type_bodies rows)
  type_items [] h = tt
  type_items (row ∷ rows) h = (
    h.0.0,
    items_after R (con_bodies row.1.cons) (type_bodies rows)
        (con_items row.1.cons h.0.1) (type_items rows h.1),
  )

  value_items : (rows : Table ValueEntry) → AllRows (ValueHas (λ σ. R σ.body)) rows → AllItems R (value_bodies rows)
  value_items [] h = tt
  value_items (row ∷ rows) h = (h.0, value_items rows h.1)

  mutual
    env_items : (env : Env) → EnvHas (λ σ. R σ.body) (λ function. R function.body) env → AllItems R (bodies env)
    env_items (Env.MakeEnv ss ts vs) h = items_after R (structure_bodies ss) (type_bodies ts ++ value_bodies vs)
        (structure_items ss h.0) (items_after R (type_bodies ts) (value_bodies vs) (type_items ts h.1)
        (value_items vs h.2))

    structure_items : (ss : Structures) → StructuresHave (λ σ. R σ.body) (λ function. R function.body) ss
        → AllItems R (structure_bodies ss)
    structure_items Structures.Nil h = tt
    structure_items (Structures.Cons name env rest) h = items_after R (bodies env) (structure_bodies rest)
        (env_items env h.0) (structure_items rest h.1)

  items_left : (first second : List Tree) → AllItems R (first ++ second) → AllItems R first
  items_left [] second h = tt
  items_left (x ∷ xs) second h = (h.0, items_left xs second h.1)

  items_right : (first second : List Tree) → AllItems R (first ++ second) → AllItems R second
  items_right [] second h = h
  items_right (x ∷ xs) second h = items_right xs second h.1

  con_back : (cons : List ConEntry) → AllItems R (con_bodies cons) → AllItems (ConHas (λ σ. R σ.body)) cons
  con_back [] h = tt
  con_back (con ∷ cons) h = (h.0, con_back cons h.1)

  type_back : (rows : Table TypeStr) → AllItems R (type_bodies rows)
      → AllRows (TypeHas (λ σ. R σ.body) (λ function. R function.body)) rows
  type_back [] h = tt
  type_back (row ∷ rows) h = (
    (h.0, con_back row.1.cons (items_left (con_bodies row.1.cons) (type_bodies rows) h.1)),
    type_back rows (items_right (con_bodies row.1.cons) (type_bodies rows) h.1),
  )

  value_back : (rows : Table ValueEntry) → AllItems R (value_bodies rows) → AllRows (ValueHas (λ σ. R σ.body)) rows
  value_back [] h = tt
  value_back (row ∷ rows) h = (h.0, value_back rows h.1)

  mutual
    env_back : (env : Env) → AllItems R (bodies env) → EnvHas (λ σ. R σ.body) (λ function. R function.body) env
    env_back (Env.MakeEnv ss ts vs) h = (
      structure_back ss (items_left (structure_bodies ss) (type_bodies ts ++ value_bodies vs) h),
      type_back ts (items_left (type_bodies ts) (value_bodies vs)
          (items_right (structure_bodies ss) (type_bodies ts ++ value_bodies vs) h)),
      value_back vs (items_right (type_bodies ts) (value_bodies vs)
          (items_right (structure_bodies ss) (type_bodies ts ++ value_bodies vs) h)),
    )

    structure_back : (ss : Structures) → AllItems R (structure_bodies ss)
        → StructuresHave (λ σ. R σ.body) (λ function. R function.body) ss
    structure_back Structures.Nil h = tt
    structure_back (Structures.Cons name env rest) h = (
      env_back env (items_left (bodies env) (structure_bodies rest) h),
      structure_back rest (items_right (bodies env) (structure_bodies rest) h),
    )

-- two things that hold of an environment, as one
both_items : (A : Type 0) (R Q T : A → Type 0) (xs : List A) → ((x : A) → R x → Q x → T x) → AllItems R xs
    → AllItems Q xs → AllItems T xs
both_items A R Q T [] f h k = tt
both_items A R Q T (x ∷ xs) f h k = (f x h.0 k.0, both_items A R Q T xs f h.1 k.1)

both_rows : (A : Type 0) (R Q T : A → Type 0) (rows : Table A) → ((x : A) → R x → Q x → T x) → AllRows R rows
    → AllRows Q rows → AllRows T rows
both_rows A R Q T [] f h k = tt
both_rows A R Q T (row ∷ rows) f h k = (f row.1 h.0 k.0, both_rows A R Q T rows f h.1 k.1)

module _ (S U T : TypeScheme → Type 0) (F G H : TypeFn → Type 0) (f : (σ : TypeScheme) → S σ → U σ → T σ)
    (g : (function : TypeFn) → F function → G function → H function) where
  both_types : (str : TypeStr) → TypeHas S F str → TypeHas U G str → TypeHas T H str
  both_types str h k = (
    g str.function h.0 k.0,
    both_items ConEntry (ConHas S) (ConHas U) (ConHas T) str.cons (λ con. f con.scheme) h.1 k.1,
  )

  mutual
    both_envs : (env : Env) → EnvHas S F env → EnvHas U G env → EnvHas T H env
    both_envs (Env.MakeEnv ss ts vs) h k = (
      both_structures ss h.0 k.0,
      both_rows TypeStr (TypeHas S F) (TypeHas U G) (TypeHas T H) ts both_types h.1 k.1,
      both_rows ValueEntry (ValueHas S) (ValueHas U) (ValueHas T) vs (λ value. f value.scheme) h.2 k.2,
    )

    both_structures : (ss : Structures) → StructuresHave S F ss → StructuresHave U G ss → StructuresHave T H ss
    both_structures Structures.Nil h k = tt
    both_structures (Structures.Cons name env rest) h k = (both_envs env h.0 k.0, both_structures rest h.1 k.1)

any_each : {A : Type 0} (first second : A → Bool) (xs : List A) → ((x : A) → first x ≡ true → second x ≡ true)
    → list_any first xs ≡ true → list_any second xs ≡ true
any_each first second [] k e = absurd (cc)
any_each first second (x ∷ xs) k e = or_either (first x) (list_any first xs) e
    (λ i. or_left (second x) (list_any second xs) (k x i))
    (λ i. or_right (second x) (list_any second xs) (any_each first second xs k i))

members : {A : Type 0} (test : ℕ → A → Bool) (xs : List A)
    → AllItems (λ x. (v : ℕ) → test v x ≡ true → list_any (test v) xs ≡ true) xs
members test [] = tt
members test (x ∷ xs) = (
  λ v e. or_left (test v x) (list_any (test v) xs) e,
  items_more (λ y. (v : ℕ) → test v y ≡ true → list_any (test v) xs ≡ true)
      (λ y. (v : ℕ) → test v y ≡ true → list_any (test v) (x ∷ xs) ≡ true) xs
      (λ y h v e. or_right (test v x) (list_any (test v) xs) (h v e)) (members test xs),
)

rows_of_items : {A : Type 0} (R : A → Type 0) (rows : Table A) → AllItems (λ row. R row.1) rows → AllRows R rows
rows_of_items R [] h = tt
rows_of_items R (row ∷ rows) h = (h.0, rows_of_items R rows h.1)

-- ---- variables that a declaration may touch: new ones, and those that are free around it

abbrev pub is_open : Scope → State → ℕ → Bool
is_open sc s v = not (ltb v s.next) || is_kept sc s.stands v

abbrev pub Opened : Scope → State → ℕ → Type 0
Opened sc s v = is_open sc s v ≡ true

abbrev pub Any : ℕ → Type 0
Any n = Unit {0}

kept_open : (sc : Scope) (s : State) (v : ℕ) → is_kept sc s.stands v ≡ true → Opened sc s v
kept_open sc s v h = or_right (not (ltb v s.next)) (is_kept sc s.stands v) h

new_open : (sc : Scope) (s : State) (v : ℕ) → s.next ≤ v → Opened sc s v
new_open sc s v h = or_left (not (ltb v s.next)) (is_kept sc s.stands v) (either_way (ltb v s.next)
    (λ e. let l : v < s.next = ltb-true v s.next e in absurd (omega (arith, h, l))) (λ e. ap not e))

-- an open one that is older is kept
open_kept : (sc : Scope) (s : State) (v : ℕ) → v < s.next → Opened sc s v → is_kept sc s.stands v ≡ true
open_kept sc s v l h = or_either (not (ltb v s.next)) (is_kept sc s.stands v) h
    (λ e. either_way (ltb v s.next)
    (λ i. let k : false ≡ true = sym (ap not i) ∙ e in absurd (cc))
    (λ i. let k : s.next ≤ v = ltb-false v s.next i in absurd (omega (arith, l, k))))
    (λ e. e)

opened : (sc : Scope) (s : State) (t : Ty) → ((v : ℕ) → occurs v (put s.stands t) ≡ true → is_kept sc s.stands v ≡ true)
    → TyIn Any s t → TyIn (Opened sc s) s t
opened sc s t h k = record { below = k.below; within = λ v e. kept_open sc s v (h v e) }

scope_open : (sc : Scope) (s : State) → ScopeIn Any s sc → ScopeIn (Opened sc s) s sc
scope_open sc s h =
    let test : ℕ → Tree → Bool = λ v tree. occurs v (seen s.stands tree) in
    let R : Tree → Type 0 = λ tree. (v : ℕ) → test v tree ≡ true → free_in_env v s.stands sc.env ≡ true in
    let in_env : (tree : Tree) → R tree → TyIn Any s (seen Ty.Var tree) → TyIn (Opened sc s) s (seen Ty.Var tree) =
    λ tree k l. opened sc s (seen Ty.Var tree)
    (λ v e. or_left (free_in_env v s.stands sc.env) (free_in_written v s.stands sc.written)
    (k v (subst (λ z. occurs v z ≡ true) (sym (seen_put s.stands tree)) e))) l in
    record {
      env = both_envs (λ σ. R σ.body) (SchemeIn Any s) (SchemeIn (Opened sc s) s)
          (λ function. R function.body) (FunctionIn Any s) (FunctionIn (Opened sc s) s)
          (λ σ k l. record { closed = l.closed; body = in_env σ.body k l.body })
          (λ function k l. in_env function.body k l)
          sc.env (env_back R sc.env (members test (bodies sc.env))) h.env;
      written = both_rows Ty (λ t. (v : ℕ) → occurs v (put s.stands t) ≡ true
          → free_in_written v s.stands sc.written ≡ true) (TyIn Any s) (TyIn (Opened sc s) s) sc.written
          (λ t k l. opened sc s t
          (λ v e. or_right (free_in_env v s.stands sc.env) (free_in_written v s.stands sc.written) (k v e)) l)
          (rows_of_items (λ t. (v : ℕ) → occurs v (put s.stands t) ≡ true
          → free_in_written v s.stands sc.written ≡ true) sc.written
          (members (λ v row. occurs v (put s.stands row.1)) sc.written)) h.written;
    }

pub ready_open : (sc : Scope) (st : Progress) → IsReady Any sc st → IsReady (Opened sc st.types) sc st
ready_open sc st h = record {
  fit = h.fit;
  new = new_open sc st.types;
  scope = scope_open sc st.types h.scope;
}

-- ---- kept by age, and kept by what is free around

-- a kept variable is kept later on in what was put in for it
kept_moves : (P : ℕ → Type 0) (sc : Scope) (st u : Progress) (g : Touches P st.types u.types) (x v : ℕ)
    → is_kept sc st.types.stands x ≡ true → occurs v (g.change x) ≡ true → is_kept sc u.types.stands v ≡ true
kept_moves P sc st u g x v h k = or_either (free_in_env x st.types.stands sc.env)
    (free_in_written x st.types.stands sc.written) h
    (λ e. or_left (free_in_env v u.types.stands sc.env) (free_in_written v u.types.stands sc.written)
    (any_each (λ tree. occurs x (seen st.types.stands tree)) (λ tree. occurs v (seen u.types.stands tree))
    (bodies sc.env)
    (λ tree i. subst (λ z. occurs v z ≡ true)
    (sym (seen_put u.types.stands tree ∙ put_changed P st.types u.types g (seen Ty.Var tree)))
    (occurs_put v x g.change (put st.types.stands (seen Ty.Var tree))
    (subst (λ z. occurs x z ≡ true) (seen_put st.types.stands tree) i) k)) e))
    (λ e. or_right (free_in_env v u.types.stands sc.env) (free_in_written v u.types.stands sc.written)
    (any_each (λ row. occurs x (put st.types.stands row.1)) (λ row. occurs v (put u.types.stands row.1)) sc.written
    (λ row i. subst (λ z. occurs v z ≡ true) (sym (put_changed P st.types u.types g row.1))
    (occurs_put v x g.change (put st.types.stands row.1) i k)) e))

held_from : (n : ℕ) (s : Substitution) (v : ℕ) (t : Ty) → IsBelow n t → occurs v (put s t) ≡ true
    → held_below n s v ≡ true
held_from n s v t h e = let k = occurs_from v s t e in (closes_types.held n s v).1 (k.0, h k.0 k.1, k.2)

-- what is kept is kept by age
pub kept_aged : (sc : Scope) (st : Progress) (s : Substitution) (v : ℕ) → ScopeIn Any st.types sc
    → is_kept sc s v ≡ true
    → kept_since st.types.next s v ≡ true
kept_aged sc st s v h e = or_right (ltb v st.types.next) (held_below st.types.next s v)
    (or_either (free_in_env v s sc.env) (free_in_written v s sc.written) e
    (λ i. any_from (held_below st.types.next s v ≡ true) (λ tree. TyIn Any st.types (seen Ty.Var tree))
    (λ tree. occurs v (seen s tree)) (bodies sc.env)
    (env_items (λ tree. TyIn Any st.types (seen Ty.Var tree)) sc.env
    (env_more (SchemeIn Any st.types) (λ σ. TyIn Any st.types (seen Ty.Var σ.body)) (FunctionIn Any st.types)
    (λ function. TyIn Any st.types (seen Ty.Var function.body)) (λ σ k. k.body) (λ function k. k) sc.env h.env)) i
    (λ tree k j. held_from st.types.next s v (seen Ty.Var tree) k.below
    (subst (λ z. occurs v z ≡ true) (seen_put s tree) j)))
    (λ i. any_from (held_below st.types.next s v ≡ true) (λ row. TyIn Any st.types row.1)
    (λ row. occurs v (put s row.1)) sc.written (row_items (TyIn Any st.types) sc.written h.written) i
    (λ row k j. held_from st.types.next s v row.1 k.below j)))

all_any : {A : Type 0} (xs : List A) → AllItems (λ (x : A). Unit {0}) xs
all_any [] = tt
all_any (x ∷ xs) = (tt, all_any xs)

-- a variable that stands in something known before, and stands for itself later on, was replaced by itself
kept_itself : (P : ℕ → Type 0) (st u : Progress) (g : Touches P st.types u.types) (v : ℕ) (t : Ty) → IsSettled st.types
    → u.types.stands v ≡ Ty.Var v → occurs v (put st.types.stands t) ≡ true → occurs v (g.change v) ≡ true
kept_itself P st u g v t h i e =
    let k : st.types.stands v ≡ Ty.Var v = known_itself st.types v t h e in
    let l : g.change v ≡ Ty.Var v = sym (g.stands v ∙ ap (put g.change) k) ∙ i in
    subst (λ z. occurs v z ≡ true) (sym l) (eq-eqb v v refl)

-- an open variable that stands for itself and is kept by age is kept
pub aged_kept : (sc : Scope) (st u : Progress) (v : ℕ) → IsFit st.types → Grows (Opened sc st.types) st u
    → Opened sc st.types v → u.types.stands v ≡ Ty.Var v → kept_since st.types.next u.types.stands v ≡ true
    → is_kept sc u.types.stands v ≡ true
aged_kept sc st u v h g o i e =
    let n : ℕ = st.types.next in
    let t : Touches (Opened sc st.types) st.types u.types = g.touches in
    or_either (ltb v n) (held_below n u.types.stands v) e
    (λ k. let l : v < n = ltb-true v n k in
    let m : is_kept sc st.types.stands v ≡ true = open_kept sc st.types v l o in
    or_either (free_in_env v st.types.stands sc.env) (free_in_written v st.types.stands sc.written) m
    (λ j. any_from (is_kept sc u.types.stands v ≡ true) (λ tree. Unit {0})
    (λ tree. occurs v (seen st.types.stands tree)) (bodies sc.env) (all_any (bodies sc.env)) j
    (λ tree _ w. kept_moves (Opened sc st.types) sc st u t v v m
    (kept_itself (Opened sc st.types) st u t v (seen Ty.Var tree) h.settled i (subst (λ z. occurs v z ≡ true)
    (seen_put st.types.stands tree) w))))
    (λ j. any_from (is_kept sc u.types.stands v ≡ true) (λ row. Unit {0})
    (λ row. occurs v (put st.types.stands row.1)) sc.written (all_any sc.written) j
    (λ row _ w. kept_moves (Opened sc st.types) sc st u t v v m
    (kept_itself (Opened sc st.types) st u t v row.1 h.settled i w))))
    (λ k. let w = (closes_types.held n u.types.stands v).0 k in
    let x = occurs_from v t.change (st.types.stands w.0) (subst (λ z. occurs v z ≡ true) (t.stands w.0) w.2) in
    let l : x.0 < n = h.below w.0 w.1 x.0 x.1 in
    either_way (is_open sc st.types x.0)
    (λ y. kept_moves (Opened sc st.types) sc st u t x.0 v (open_kept sc st.types x.0 l y) x.2)
    (λ y. let same : v ≡ x.0 = eqb-true v x.0 (subst (λ z. occurs v z ≡ true)
    (t.outside x.0 (λ z. let q : false ≡ true = sym y ∙ z in absurd (cc))) x.2) in
    let q : false ≡ true = sym y ∙ subst (Opened sc st.types) same o in absurd (cc)))
