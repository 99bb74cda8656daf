-- What is seen alike is seen alike later on; instances, and unification.
use Rattle.std.proofs.Common.{◌≡◌, ℕ, zero, suc, ◌+◌, [], refl, sym, ap, ap₂, ◌∙◌, Option, Some, None, false}
use Rattle.std.specs.Prelude.{Result, Ok, Err}
use Rattle.sml_trees.specs.declared.name.At.{At}
use Rattle.sml_trees.specs.declared.name.LongName.{LongName}
use Rattle.semantic_objects.specs.declared.entry.ValueEntry.{ValueEntry}
use Rattle.semantic_objects.specs.Tables.{Table}
use Rattle.semantic_objects.specs.Trees.{Tree, Trees, TypeScheme}
use Rattle.semantic_objects.specs.Environments.{Env, values}
use Rattle.unification.specs.Types.{Ty, Types, Substitution, State, put, put_all}
use Rattle.unification.specs.Unification.{Fault, unify_step, unify_in}
use Rattle.unification.specs.Instances.{fill, with_variables}
use Rattle.unification.specs.Closing.{closed_over, closed_over_all, put_tree, put_trees}
use Rattle.unification.specs.Touching.{Touches}
use Rattle.unification.specs.Fitting.{IsFit}
use Rattle.unification.proofs.Untouched.{put_changed, touches}
use Rattle.unification.proofs.Filling.{put_fill, fill_put}
use Rattle.static_semantics.specs.Inferring.{Progress, Scope, with_types, known, unified, unify_at, new_instance, found_at, seen}
use Rattle.static_semantics.specs.BasicTypes.{unit_ty}
use Rattle.static_semantics.specs.Holding.{Given}
use Rattle.static_semantics.proofs.Ages.{Any}
use Rattle.inference_laws.specs.Alike.{RowsAlike, Both, ValuesAlike, TypesSame, SeenAlike, SameTy, in_env}
use Rattle.inference_laws.proofs.Alike.{both_known, alike_found, alike_values, rows_alike_more, envs_alike_more}
use Rattle.inference_laws.proofs.SameTypes.{AnyValue, IsSame, SameTypes}

-- ---- later on

pub same_later : (st u : Progress) (a b : Ty) → Touches Any st.types u.types → SameTy st.types.stands a b → SameTy
    u.types.stands a b
same_later st u a b g e =
    put_changed Any st.types u.types g a ∙ ap (put g.change) e
    ∙ sym (put_changed Any st.types u.types g b)

pub rows_same_later : (st u : Progress) (xs ys : Table Ty) → Touches Any st.types u.types → RowsAlike
    (SameTy st.types.stands) xs ys
    → RowsAlike (SameTy u.types.stands) xs ys
rows_same_later st u xs ys g h = rows_alike_more (SameTy st.types.stands) (SameTy u.types.stands) xs ys
    (λ a b e. same_later st u a b g e) h

mutual
  pub put_closed : (c : Substitution) (t : Ty) → put_tree c (closed_over [] t) ≡ closed_over [] (put c t)
  put_closed c (Ty.Var n) = refl
  put_closed c (Ty.Made d ts) = ap (Tree.Made d) (put_closed_all c ts)

  put_closed_all : (c : Substitution) (ts : Types)
      → put_trees c (closed_over_all [] ts) ≡ closed_over_all [] (put_all c ts)
  put_closed_all c Types.Nil = refl
  put_closed_all c (Types.Cons t ts) = ap₂ Trees.Cons (put_closed c t) (put_closed_all c ts)

mutual
  pub tree_changed : (s u c : Substitution) (x : Tree) → ((n : ℕ) → u n ≡ put c (s n))
      → put_tree u x ≡ put_tree c (put_tree s x)
  tree_changed s u c (Tree.Bound i) h = refl
  tree_changed s u c (Tree.Free n) h = ap (closed_over []) (h n) ∙ sym (put_closed c (s n))
  tree_changed s u c (Tree.Made d xs) h = ap (Tree.Made d) (trees_changed s u c xs h)

  trees_changed : (s u c : Substitution) (xs : Trees) → ((n : ℕ) → u n ≡ put c (s n))
      → put_trees u xs ≡ put_trees c (put_trees s xs)
  trees_changed s u c Trees.Nil h = refl
  trees_changed s u c (Trees.Cons x xs) h = ap₂ Trees.Cons (tree_changed s u c x h) (trees_changed s u c xs h)

tree_later : (st u : Progress) (x y : Tree) → Touches Any st.types u.types → put_tree st.types.stands x ≡ put_tree
    st.types.stands y
    → put_tree u.types.stands x ≡ put_tree u.types.stands y
tree_later st u x y g e =
    tree_changed st.types.stands u.types.stands g.change x g.stands
    ∙ ap (put_tree g.change) e
    ∙ sym (tree_changed st.types.stands u.types.stands g.change y g.stands)

pub values_later : (st u : Progress) → Touches Any st.types u.types → (v w : ValueEntry) → ValuesAlike st.types.stands
    v w
    → ValuesAlike u.types.stands v w
values_later st u g v w h = record {
  status = h.status;
  marks = h.marks;
  body = tree_later st u v.scheme.body w.scheme.body g h.body;
  shaped = h.shaped;
}

pub seen_later : (st u : Progress) (e f : Env) → Touches Any st.types u.types → SeenAlike st.types.stands e f
    → SeenAlike u.types.stands e f
seen_later st u e f g h = envs_alike_more (ValuesAlike st.types.stands) (ValuesAlike u.types.stands) TypesSame TypesSame
    (values_later st u g) (λ x y k. k) e f h

pub types_of_seen : (s : Substitution) (e f : Env) → SeenAlike s e f → SameTypes e f
types_of_seen s e f h = envs_alike_more (ValuesAlike s) AnyValue TypesSame IsSame (λ x y k. tt) (λ x y k. k.same) e f h

-- ---- trees that are seen alike

pub filled_alike : (b s : Substitution) (x y : Tree) → put_tree s x ≡ put_tree s y → fill b s x ≡ fill b s y
filled_alike b s x y e = sym (fill_put b s x) ∙ ap (fill b Ty.Var) e ∙ fill_put b s y

pub seen_same : (s : Substitution) (x y : Tree) → put_tree s x ≡ put_tree s y → seen s x ≡ seen s y
seen_same s x y e = filled_alike (λ i. unit_ty) s x y e

pub instance_same : (σ τ : TypeScheme) (st : Progress) → put_tree st.types.stands σ.body ≡ put_tree st.types.stands
    τ.body
    → SameTy st.types.stands (new_instance σ st).0 (new_instance τ st).0
instance_same σ τ st e =
    let s : Substitution = st.types.stands in
    let b : Substitution = λ i. Ty.Var (st.types.next + i) in
    put_fill s b Ty.Var σ.body ∙ filled_alike (λ i. put s (b i)) s σ.body τ.body e ∙ sym (put_fill s b Ty.Var τ.body)

pub instance_state_same : (σ τ : TypeScheme) (st : Progress) → σ.marks ≡ τ.marks
    → (new_instance σ st).1 ≡ (new_instance τ st).1
instance_state_same σ τ st e = ap (λ ms. with_types (with_variables false ms st.types) st) e

pub value_alike : (s : Substitution) (sc : Scope) (f : Env) (long : LongName) → SeenAlike s sc.env f
    → Both (ValuesAlike s) (known sc long (found_at values long.parts sc.env))
    (known (in_env f sc) long (found_at values long.parts f))
value_alike s sc f long h = both_known (ValuesAlike s) sc f long (found_at values long.parts sc.env)
    (found_at values long.parts f)
    (alike_found (ValuesAlike s) TypesSame (ValuesAlike s) values (alike_values (ValuesAlike s) TypesSame) long.parts
    sc.env f h)

-- ---- unification

unify_in_same : (depth : ℕ) (a b c d : Ty) (s : State) → SameTy s.stands a c → SameTy s.stands b d
    → unify_in depth a b s ≡ unify_in depth c d s
unify_in_same zero a b c d s h k = refl
unify_in_same (suc n) a b c d s h k = ap₂ (λ x y. unify_step (unify_in n) x y s) h k

pub unify_same : (depth : ℕ) (sc : Scope) (f : Env) (at : At) (a b c d : Ty) (st : Progress)
    → SameTy st.types.stands a c → SameTy st.types.stands b d
    → unify_at depth sc at a b st ≡ unify_at depth (in_env f sc) at c d st
unify_same depth sc f at a b c d st h k =
    ap (unified sc at st) (unify_in_same depth a b c d st.types h k) ∙ on (unify_in depth c d st.types) where
      on : (o : Option (Result State Fault)) → unified sc at st o ≡ unified (in_env f sc) at st o
      on None = refl
      on (Some (Err e)) = refl
      on (Some (Ok r)) = refl

-- .. and what it leaves
unified_touches : (depth : ℕ) (sc : Scope) (at : At) (a b : Ty) (st : Progress) (o : Option (Result State Fault))
    → IsFit st.types → unify_in depth a b st.types ≡ o
    → Given (λ u. Touches Any st.types u.types) (unified sc at st o)
unified_touches depth sc at a b st None h e = tt
unified_touches depth sc at a b st (Some (Err fault)) h e = tt
unified_touches depth sc at a b st (Some (Ok r)) h e =
    touches Any depth a b st.types (Ok r) h.settled (λ n i. tt) (λ n i. tt) e

pub unify_touches : (depth : ℕ) (sc : Scope) (at : At) (a b : Ty) (st : Progress) → IsFit st.types
    → Given (λ u. Touches Any st.types u.types) (unify_at depth sc at a b st)
unify_touches depth sc at a b st h = unified_touches depth sc at a b st (unify_in depth a b st.types) h refl
