-- How states grow, and types, schemes, environments and scopes with them.
use Rattle.std.proofs.Common.{◌≡◌, ℕ, ◌+◌, ◌<◌, ◌≤◌, List, [], ◌∷◌, map, refl, sym, ap, ◌∙◌, subst, arith, Option, Some, None, Bool, true, false, cond}
use Rattle.std.specs.Prelude.{Result, Ok, Err, eqb}
use Rattle.std.proofs.lemmas.Bool.{eqb-true}
use Rattle.sml_trees.specs.declared.name.At.{At}
use Rattle.semantic_objects.specs.declared.symbol.Symbol.{Symbol}
use Rattle.semantic_objects.specs.declared.symbol.Symbol.TheVariants as symbol
use Rattle.semantic_objects.specs.Tables.{Table, names_of}
use Rattle.semantic_objects.specs.Trees.{Tree, Trees, TypeScheme, frees, frees_any}
use Rattle.semantic_objects.specs.Environments.{Env}
use Rattle.unification.specs.Types.{Ty, Types, Substitution, Marks, State, put, put_all, occurs, occurs_any}
use Rattle.unification.specs.Unification.{Fault, unify_in, MakesEqual, IsMostGeneral}
use Rattle.unification.specs.Touching.{IsWithin, AreWithin, Touches}
use Rattle.unification.specs.Instances.{fill, fill_all, with_variable, with_variables}
use Rattle.unification.specs.Closing.{is_among, closed_over, scheme_over, filler}
use Rattle.unification.specs.Fitting.{Below, IsBelow, IsFit, IsSchemeOf}
use Rattle.unification.proofs.Putting.{either_way, or_either, or_left, or_right, put-put, put_free, put_solved}
use Rattle.unification.proofs.General.{most_general}
use Rattle.unification.proofs.Untouched.{within_put, put_changed, touches}
use Rattle.unification.proofs.Filling.{fill_closed, put_fill}
use Rattle.unification.proofs.Fitting.{put_below, fit_unified, fit_variable, fit_instance}
use Rattle.unification.proofs.Closing.{closed_fits}
use Rattle.static_semantics.specs.BasicTypes.{unit_ty, arrow_ty, types_of, record_ty}
use Rattle.static_semantics.specs.Inferring.{Progress, with_types, Scope, unified, unify_at, new_instance, seen}
use Rattle.static_semantics.specs.Holding.{Given, AllItems, AllRows}
use Rattle.static_semantics.specs.Growing.{TyIn, SchemeIn, FunctionIn, EnvIn, ScopeIn, HasNew, Grows, IsReady}
use Rattle.static_semantics.proofs.Holding.{rows_more, items_more, env_more}

-- ---- one state after another

touches_same : (P : ℕ → Type 0) (s : State) → Touches P s s
touches_same P s = record {
  change = Ty.Var;
  stands = λ n. sym (put_free (s.stands n));
  outside = λ n h. refl;
  inside = λ n h m e. subst P (sym (eqb-true m n e)) h;
  marks = λ n h e. e;
}

touches_then : (P : ℕ → Type 0) (s m r : State) → Touches P s m → Touches P m r → Touches P s r
touches_then P s m r h k = record {
  change = λ n. put k.change (h.change n);
  stands = λ n. k.stands n ∙ ap (put k.change) (h.stands n) ∙ put-put k.change h.change (s.stands n);
  outside = λ n i. ap (put k.change) (h.outside n i) ∙ k.outside n i;
  inside = λ n i. within_put P k.change (h.change n) (λ m e. k.inside m (h.inside n i m e));
  marks = λ n i e. h.marks n i (k.marks n i e);
}

pub grows_same : (P : ℕ → Type 0) (st : Progress) → IsFit st.types → Grows P st st
grows_same P st h = record {
  fit = h;
  later = omega arith;
  touches = touches_same P st.types;
  rigid = λ n k. refl;
  names = omega arith;
}

pub grows_then : (P : ℕ → Type 0) (st u v : Progress) → Grows P st u → Grows P u v → Grows P st v
grows_then P st u v h k = record {
  fit = k.fit;
  later = let l : st.types.next ≤ u.types.next = h.later in let m : u.types.next ≤ v.types.next = k.later in
      omega (arith, l, m);
  touches = touches_then P st.types u.types v.types h.touches k.touches;
  rigid = λ n l. k.rigid n (let m : st.types.next ≤ u.types.next = h.later in omega (arith, l, m)) ∙ h.rigid n l;
  names = let l : st.names ≤ u.names = h.names in let m : u.names ≤ v.names = k.names in omega (arith, l, m);
}

pub new_later : (P : ℕ → Type 0) (st u : Progress) → Grows P st u → HasNew P st.types → HasNew P u.types
new_later P st u h k n l = k n (let m : st.types.next ≤ u.types.next = h.later in omega (arith, l, m))

-- ---- types later on

pub ty_later : (P : ℕ → Type 0) (st u : Progress) (t : Ty) → Grows P st u → TyIn P st.types t → TyIn P u.types t
ty_later P st u t h k = record {
  below = λ n e. (let l : n < st.types.next = k.below n e in let m : st.types.next ≤ u.types.next = h.later in
      omega (arith, l, m));
  within = subst (IsWithin P) (sym (put_changed P st.types u.types h.touches t))
      (within_put P h.touches.change (put st.types.stands t) (λ n e. h.touches.inside n (k.within n e)));
}

pub scheme_later : (P : ℕ → Type 0) (st u : Progress) → Grows P st u → (σ : TypeScheme) → SchemeIn P st.types σ
    → SchemeIn P u.types σ
scheme_later P st u h σ k = record { closed = k.closed; body = ty_later P st u (seen Ty.Var σ.body) h k.body }

pub env_later : (P : ℕ → Type 0) (st u : Progress) (env : Env) → Grows P st u → EnvIn P st.types env
    → EnvIn P u.types env
env_later P st u env h k = env_more (SchemeIn P st.types) (SchemeIn P u.types) (FunctionIn P st.types)
    (FunctionIn P u.types) (scheme_later P st u h)
    (λ function i. ty_later P st u (seen Ty.Var function.body) h i) env k

pub rows_later : (P : ℕ → Type 0) (st u : Progress) (rows : Table Ty) → Grows P st u → AllRows (TyIn P st.types) rows
    → AllRows (TyIn P u.types) rows
rows_later P st u rows h k = rows_more (TyIn P st.types) (TyIn P u.types) rows (λ t i. ty_later P st u t h i) k

pub scope_later : (P : ℕ → Type 0) (st u : Progress) (sc : Scope) → Grows P st u → ScopeIn P st.types sc
    → ScopeIn P u.types sc
scope_later P st u sc h k = record {
  env = env_later P st u sc.env h k.env;
  written = rows_later P st u sc.written h k.written;
}

pub ready_later : (P : ℕ → Type 0) (sc : Scope) (st u : Progress) → IsReady P sc st → Grows P st u → IsReady P sc u
ready_later P sc st u h k = record {
  fit = k.fit;
  new = new_later P st u k h.new;
  scope = scope_later P st u sc k h.scope;
}

-- ---- new variables

lone_mark : (P : ℕ → Type 0) (n k : ℕ) (mark : Bool) (q : Marks) → (P n → ⊥) → P k → cond (eqb n k) mark (q n) ≡ true
    → q n ≡ true
lone_mark P n k mark q h i e = either_way (eqb n k) (λ j. absurd (h (subst P (sym (eqb-true n k j)) i)))
    (λ j. sym (ap (λ z. cond z mark (q n)) j) ∙ e)

other_rigid : (n k : ℕ) (rigid : Bool) (q : Marks) → n < k → cond (eqb n k) rigid (q n) ≡ q n
other_rigid n k rigid q h = either_way (eqb n k)
    (λ j. let l : n ≡ k = eqb-true n k j in absurd (omega (arith, l, h)))
    (λ j. ap (λ z. cond z rigid (q n)) j)

pub grows_variable : (P : ℕ → Type 0) (rigid mark : Bool) (st : Progress) → IsFit st.types → HasNew P st.types
    → Grows P st (with_types (with_variable rigid mark st.types) st)
grows_variable P rigid mark st h k = record {
  fit = fit_variable rigid mark st.types h;
  later = omega arith;
  touches = record {
    change = Ty.Var;
    stands = λ n. sym (put_free (st.types.stands n));
    outside = λ n i. refl;
    inside = λ n i m e. subst P (sym (eqb-true m n e)) i;
    marks = λ n i e. lone_mark P n st.types.next mark st.types.marks i (k st.types.next (omega arith)) e;
  };
  rigid = λ n i. other_rigid n st.types.next rigid st.types.rigid i;
  names = omega arith;
}

pub ty_new : (P : ℕ → Type 0) (rigid mark : Bool) (st : Progress) → IsFit st.types → HasNew P st.types
    → TyIn P (with_variable rigid mark st.types) (Ty.Var st.types.next)
ty_new P rigid mark st h k = record {
  below = λ n e. (let l : n ≡ st.types.next = eqb-true n st.types.next e in omega (arith, l));
  within = subst (IsWithin P) (sym (h.beyond st.types.next (omega arith)))
      (λ n e. subst P (sym (eqb-true n st.types.next e)) (k st.types.next (omega arith)));
}

pub grows_variables : (P : ℕ → Type 0) (rigid : Bool) (ms : List Bool) (st : Progress) → IsFit st.types
    → HasNew P st.types → Grows P st (with_types (with_variables rigid ms st.types) st)
grows_variables P rigid [] st h k = grows_same P st h
grows_variables P rigid (m ∷ ms) st h k =
    let next : Progress = with_types (with_variable rigid m st.types) st in
    let g : Grows P st next = grows_variable P rigid m st h k in
    grows_then P st next (with_types (with_variables rigid ms next.types) next) g
    (grows_variables P rigid ms next g.fit (new_later P st next g k))

-- ---- trees as types

mutual
  within_filled : (Q : ℕ → Type 0) (b f : Substitution) (x : Tree) → ((i : ℕ) → IsWithin Q (b i))
      → IsWithin Q (fill (λ i. unit_ty) f x) → IsWithin Q (fill b f x)
  within_filled Q b f (Tree.Bound i) h k = h i
  within_filled Q b f (Tree.Free n) h k = k
  within_filled Q b f (Tree.Made c ts) h k = within_filled_all Q b f ts h k

  within_filled_all : (Q : ℕ → Type 0) (b f : Substitution) (xs : Trees) → ((i : ℕ) → IsWithin Q (b i))
      → AreWithin Q (fill_all (λ i. unit_ty) f xs) → AreWithin Q (fill_all b f xs)
  within_filled_all Q b f Trees.Nil h k = λ n e. absurd (cc)
  within_filled_all Q b f (Trees.Cons t ts) h k = λ n e. or_either _ _ e
      (λ i. within_filled Q b f t h (λ m j. k m (or_left _ _ j)) n i)
      (λ i. within_filled_all Q b f ts h (λ m j. k m (or_right _ _ j)) n i)

pub ty_filled : (P : ℕ → Type 0) (s : State) (b : Substitution) (x : Tree) → ((i : ℕ) → TyIn P s (b i))
    → TyIn P s (seen Ty.Var x) → TyIn P s (fill b Ty.Var x)
ty_filled P s b x h k = record {
  below = within_filled (Below s.next) b Ty.Var x (λ i. (h i).below) k.below;
  within = subst (IsWithin P) (sym (put_fill s.stands b Ty.Var x))
      (within_filled P (λ i. put s.stands (b i)) s.stands x (λ i. (h i).within)
      (subst (IsWithin P) (put_fill s.stands (λ i. unit_ty) Ty.Var x) k.within));
}

-- what is free in a tree stands in it as a type
mutual
  frees_seen : (n : ℕ) (x : Tree) → frees n x ≡ true → occurs n (seen Ty.Var x) ≡ true
  frees_seen n (Tree.Bound i) h = absurd (cc)
  frees_seen n (Tree.Free m) h = h
  frees_seen n (Tree.Made c ts) h = frees_seen_all n ts h

  frees_seen_all : (n : ℕ) (xs : Trees) → frees_any n xs ≡ true
      → occurs_any n (fill_all (λ i. unit_ty) Ty.Var xs) ≡ true
  frees_seen_all n Trees.Nil h = h
  frees_seen_all n (Trees.Cons t ts) h = or_either _ _ h (λ i. or_left _ _ (frees_seen n t i))
      (λ i. or_right _ _ (frees_seen_all n ts i))

pub scheme_of : (P : ℕ → Type 0) (s : State) (σ : TypeScheme) → SchemeIn P s σ → IsSchemeOf s σ
scheme_of P s σ h = record { closed = h.closed; of = λ n e. h.body.below n (frees_seen n σ.body e) }

-- ---- instances

stands_after : (rigid : Bool) (ms : List Bool) (s : State) → (with_variables rigid ms s).stands ≡ s.stands
stands_after rigid [] s = refl
stands_after rigid (m ∷ ms) s = stands_after rigid ms (with_variable rigid m s)

pub grows_instance : (P : ℕ → Type 0) (σ : TypeScheme) (st : Progress) → IsFit st.types → HasNew P st.types
    → Grows P st (new_instance σ st).1
grows_instance P σ st h k = grows_variables P false σ.marks st h k

pub ty_instance : (P : ℕ → Type 0) (σ : TypeScheme) (st : Progress) → IsFit st.types → HasNew P st.types
    → SchemeIn P st.types σ → TyIn P (new_instance σ st).1.types (new_instance σ st).0
ty_instance P σ st h k l =
    let s : State = st.types in
    let b : Substitution = λ i. Ty.Var (s.next + i) in
    record {
      below = (fit_instance σ s h (scheme_of P s σ l)).1;
      within = subst (λ z. IsWithin P (put z (fill b Ty.Var σ.body))) (sym (stands_after false σ.marks s))
          (subst (IsWithin P) (sym (put_fill s.stands b Ty.Var σ.body))
          (within_filled P (λ i. s.stands (s.next + i)) s.stands σ.body
          (λ i. subst (IsWithin P) (sym (h.beyond (s.next + i) (omega arith)))
          (λ n e. subst P (sym (eqb-true n (s.next + i) e)) (k (s.next + i) (omega arith))))
          (subst (IsWithin P) (put_fill s.stands (λ i. unit_ty) Ty.Var σ.body) l.body.within)));
    }

-- ---- types made of types

are_within : (Q : ℕ → Type 0) (ts : List Ty) → AllItems (IsWithin Q) ts → AreWithin Q (types_of ts)
are_within Q [] h = λ n e. absurd (cc)
are_within Q (t ∷ ts) h = λ n e. or_either _ _ e (h.0 n) (are_within Q ts h.1 n)

are_within_put : (Q : ℕ → Type 0) (s : Substitution) (ts : List Ty) → AllItems (λ t. IsWithin Q (put s t)) ts
    → AreWithin Q (put_all s (types_of ts))
are_within_put Q s [] h = λ n e. absurd (cc)
are_within_put Q s (t ∷ ts) h = λ n e. or_either _ _ e (h.0 n) (are_within_put Q s ts h.1 n)

pub ty_made : (P : ℕ → Type 0) (s : State) (c : Symbol) (ts : List Ty) → AllItems (TyIn P s) ts
    → TyIn P s (Ty.Made c (types_of ts))
ty_made P s c ts h = record {
  below = are_within (Below s.next) ts (items_more (TyIn P s) (IsWithin (Below s.next)) ts (λ t i. i.below) h);
  within = are_within_put P s.stands ts (items_more (TyIn P s) (λ t. IsWithin P (put s.stands t)) ts
      (λ t i. i.within) h);
}

pub ty_arrow : (P : ℕ → Type 0) (s : State) (a b : Ty) → TyIn P s a → TyIn P s b → TyIn P s (arrow_ty a b)
ty_arrow P s a b h k = ty_made P s symbol.Arrow (a ∷ b ∷ []) (h, (k, tt))

items_of_rows : {A : Type 0} (R : A → Type 0) (rows : Table A) → AllRows R rows
    → AllItems R (map (λ row. row.1) rows)
items_of_rows R [] h = tt
items_of_rows R (row ∷ rows) h = (h.0, items_of_rows R rows h.1)

pub ty_record : (P : ℕ → Type 0) (s : State) (rows : Table Ty) → AllRows (TyIn P s) rows → TyIn P s (record_ty rows)
ty_record P s rows h = ty_made P s (symbol.Record (names_of rows)) (map (λ row. row.1) rows)
    (items_of_rows (TyIn P s) rows h)

pub ty_constant : (P : ℕ → Type 0) (s : State) (c : Symbol) → TyIn P s (Ty.Made c Types.Nil)
ty_constant P s c = ty_made P s c [] tt

-- both sides of an arrow
pub arrow_left : (P : ℕ → Type 0) (s : State) (c : Symbol) (a b : Ty)
    → TyIn P s (Ty.Made c (Types.Cons a (Types.Cons b Types.Nil))) → TyIn P s a
arrow_left P s c a b h = record {
  below = λ n e. h.below n (or_left _ _ e);
  within = λ n e. h.within n (or_left _ _ e);
}

pub arrow_right : (P : ℕ → Type 0) (s : State) (c : Symbol) (a b : Ty)
    → TyIn P s (Ty.Made c (Types.Cons a (Types.Cons b Types.Nil))) → TyIn P s b
arrow_right P s c a b h = record {
  below = λ n e. h.below n (or_right (occurs n a) _ (or_left _ _ e));
  within = λ n e. h.within n (or_right (occurs n (put s.stands a)) _ (or_left _ _ e));
}

-- ---- closed types

mutual
  pub within_at : (Q : ℕ → Type 0) (s : Substitution) (m : ℕ) (t : Ty) → occurs m t ≡ true → IsWithin Q (put s t)
      → IsWithin Q (s m)
  within_at Q s m (Ty.Var n) h k = subst (λ z. IsWithin Q (s z)) (sym (eqb-true m n h)) k
  within_at Q s m (Ty.Made c ts) h k = within_at_all Q s m ts h k

  within_at_all : (Q : ℕ → Type 0) (s : Substitution) (m : ℕ) (ts : Types) → occurs_any m ts ≡ true
      → AreWithin Q (put_all s ts) → IsWithin Q (s m)
  within_at_all Q s m Types.Nil h k = absurd (cc)
  within_at_all Q s m (Types.Cons t ts) h k = or_either _ _ h
      (λ i. within_at Q s m t i (λ n e. k n (or_left _ _ e)))
      (λ i. within_at_all Q s m ts i (λ n e. k n (or_right _ _ e)))

within_where : (Q : ℕ → Type 0) (c : Bool) (u t : Ty) → IsWithin Q u → IsWithin Q t → IsWithin Q (cond c u t)
within_where Q true u t h k = h
within_where Q false u t h k = k

put_where : (s : Substitution) (c : Bool) (t u : Ty) → put s (cond c t u) ≡ cond c (put s t) (put s u)
put_where s true t u = refl
put_where s false t u = refl

within_unit : (Q : ℕ → Type 0) → IsWithin Q unit_ty
within_unit Q n e = absurd (cc)

-- a type closed over some of its variables, as a tree
pub ty_closed : (P : ℕ → Type 0) (s : State) (vs : List ℕ) (t : Ty) → TyIn P s t
    → TyIn P s (seen Ty.Var (closed_over vs t))
ty_closed P s vs t h =
    let f : Substitution = filler vs (λ i. unit_ty) Ty.Var in
    record {
      below = subst (IsBelow s.next) (sym (fill_closed (λ i. unit_ty) Ty.Var vs t))
          (within_put (Below s.next) f t (λ m e. within_where (Below s.next) (is_among m vs) unit_ty (Ty.Var m)
          (within_unit (Below s.next)) (λ n i. subst (λ z. z < s.next) (sym (eqb-true n m i)) (h.below m e))));
      within = subst (λ z. IsWithin P (put s.stands z)) (sym (fill_closed (λ i. unit_ty) Ty.Var vs t))
          (subst (IsWithin P) (sym (put-put s.stands f t))
          (within_put P (λ n. put s.stands (f n)) t (λ m e. subst (IsWithin P)
          (sym (put_where s.stands (is_among m vs) unit_ty (Ty.Var m)))
          (within_where P (is_among m vs) unit_ty (s.stands m) (within_unit P)
          (within_at P s.stands m t e h.within)))));
    }

-- a type with everything put in
pub ty_known : (P : ℕ → Type 0) (s : State) (t : Ty) → IsFit s → TyIn P s t → TyIn P s (put s.stands t)
ty_known P s t h k = record {
  below = put_below s t h k.below;
  within = subst (IsWithin P) (sym (put_solved s s t h.settled.solves)) k.within;
}

pub scheme_closed : (P : ℕ → Type 0) (s : State) (vs : List ℕ) (q : Marks) (t : Ty) → TyIn P s t
    → SchemeIn P s (scheme_over vs q t)
scheme_closed P s vs q t h = record { closed = (closed_fits s vs q t h.below).closed; body = ty_closed P s vs t h }

-- ---- unification

unified_grows : (P : ℕ → Type 0) (depth : ℕ) (sc : Scope) (at : At) (a b : Ty) (st : Progress)
    (o : Option (Result State Fault)) → IsFit st.types → TyIn P st.types a → TyIn P st.types b
    → unify_in depth a b st.types ≡ o → Given (Grows P st) (unified sc at st o)
unified_grows P depth sc at a b st None h k l e = tt
unified_grows P depth sc at a b st (Some (Err fault)) h k l e = tt
unified_grows P depth sc at a b st (Some (Ok s)) h k l e =
    let g : IsMostGeneral st.types s (MakesEqual a b) = most_general depth a b st.types (Ok s) h.settled e in
    record {
      fit = fit_unified depth a b st.types s h k.below l.below e;
      later = let i : s.next ≡ st.types.next = g.next in omega (arith, i);
      touches = touches P depth a b st.types (Ok s) h.settled k.within l.within e;
      rigid = λ n i. ap (λ z. z n) g.rigid;
      names = omega arith;
    }

pub unify_grows : (P : ℕ → Type 0) (depth : ℕ) (sc : Scope) (at : At) (a b : Ty) (st : Progress) → IsFit st.types
    → TyIn P st.types a → TyIn P st.types b → Given (Grows P st) (unify_at depth sc at a b st)
unify_grows P depth sc at a b st h k l = unified_grows P depth sc at a b st (unify_in depth a b st.types) h k l refl
