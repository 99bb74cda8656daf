-- New variables, instances and closing move with the variables.
use Rattle.std.proofs.Common.{◌≡◌, ℕ, zero, suc, ◌+◌, List, [], ◌∷◌, ◌++◌, map, refl, sym, ap, ap₂, ◌∙◌, Bool, true, false, ◌||◌, cond, arith, get_or}
use Rattle.std.proofs.lemmas.List.{map-append, length-map}
use Rattle.std.specs.Prelude.{eqb}
use Rattle.std.specs.List.{list_any}
use Rattle.semantic_objects.specs.declared.entry.TypeFn.{TypeFn}
use Rattle.semantic_objects.specs.declared.entry.ValueEntry.{ValueEntry}
use Rattle.semantic_objects.specs.Trees.{Tree, Trees, TypeScheme}
use Rattle.semantic_objects.specs.Environments.{Env, with_value}
use Rattle.unification.specs.Types.{Ty, Types, Substitution, Marks, State, put, put_all, occurs}
use Rattle.unification.specs.Instances.{fill, fill_all, with_variable, with_variables}
use Rattle.unification.specs.Closing.{is_among, place_of, found_in, found_in_all, closed_over, closed_over_all, scheme_over, put_tree, put_trees}
use Rattle.static_semantics.specs.BasicTypes.{unit_ty}
use Rattle.static_semantics.specs.Inferring.{Progress, Scope, new_variable, new_instance, Bound, variable_entry, with_bound, bodies, seen, free_in_env, free_in_written, is_kept, is_too_large, has_too_large}
use Rattle.static_semantics.specs.TypeInference.{new_rigid, applied_to, type_function}
use Rattle.static_semantics.specs.EnvironmentsPut.{put_scheme, put_value, put_env, put_rows, put_scope}
use Rattle.renaming_laws.specs.Moved.{moved, IsMoved, AreMoved}
use Rattle.renaming_laws.proofs.Unifying.{eqb_moved, known_moved, occurs_moved, large_moved}
use Rattle.renaming_laws.proofs.Environments.{put_with_value, put_bodies}

-- ---- new variables

pub variable_moved : (k : ℕ) (rigid mark : Bool) (s r : State) → IsMoved k s r
    → IsMoved k (with_variable rigid mark s) (with_variable rigid mark r)
variable_moved k rigid mark s r h = record {
  next = let e : r.next ≡ s.next + k = h.next in omega (arith, e);
  stands = h.stands;
  marks = λ n. ap₂ (λ a b. cond a mark b) (ap (eqb (n + k)) h.next ∙ eqb_moved k n s.next) (h.marks n);
  rigid = λ n. ap₂ (λ a b. cond a rigid b) (ap (eqb (n + k)) h.next ∙ eqb_moved k n s.next) (h.rigid n);
}

variables_moved : (k : ℕ) (rigid : Bool) (marks : List Bool) (s r : State) → IsMoved k s r
    → IsMoved k (with_variables rigid marks s) (with_variables rigid marks r)
variables_moved k rigid [] s r h = h
variables_moved k rigid (m ∷ ms) s r h =
    variables_moved k rigid ms (with_variable rigid m s) (with_variable rigid m r) (variable_moved k rigid m s r h)

pub new_moved : (k : ℕ) (st u : Progress) → AreMoved k st u → AreMoved k (new_variable st).1 (new_variable u).1
new_moved k st u h = record { types = variable_moved k false false st.types u.types h.types; names = h.names }

pub new_is_moved : (k : ℕ) (st u : Progress) → AreMoved k st u
    → (new_variable u).0 ≡ put (moved k) (new_variable st).0
new_is_moved k st u h = ap Ty.Var h.types.next

pub rigid_moved : (k : ℕ) (text : List ℕ) (st u : Progress) → AreMoved k st u
    → AreMoved k (new_rigid text st) (new_rigid text u)
rigid_moved k text st u h = record { types = variable_moved k true _ st.types u.types h.types; names = h.names }

-- ---- trees as types

mutual
  pub fill_moved : (k : ℕ) (b c p q : Substitution) (x : Tree) → ((i : ℕ) → c i ≡ put (moved k) (b i))
      → ((n : ℕ) → q (n + k) ≡ put (moved k) (p n)) → fill c q (put_tree (moved k) x) ≡ put (moved k) (fill b p x)
  fill_moved k b c p q (Tree.Bound i) h l = h i
  fill_moved k b c p q (Tree.Free n) h l = l n
  fill_moved k b c p q (Tree.Made d xs) h l = ap (Ty.Made d) (fill_all_moved k b c p q xs h l)

  fill_all_moved : (k : ℕ) (b c p q : Substitution) (xs : Trees) → ((i : ℕ) → c i ≡ put (moved k) (b i))
      → ((n : ℕ) → q (n + k) ≡ put (moved k) (p n))
      → fill_all c q (put_trees (moved k) xs) ≡ put_all (moved k) (fill_all b p xs)
  fill_all_moved k b c p q Trees.Nil h l = refl
  fill_all_moved k b c p q (Trees.Cons x xs) h l =
      ap₂ Types.Cons (fill_moved k b c p q x h l) (fill_all_moved k b c p q xs h l)

pub instance_moved : (k : ℕ) (σ : TypeScheme) (st u : Progress) → AreMoved k st u
    → AreMoved k (new_instance σ st).1 (new_instance (put_scheme (moved k) σ) u).1
instance_moved k σ st u h =
    record { types = variables_moved k false σ.marks st.types u.types h.types; names = h.names }

pub instance_is_moved : (k : ℕ) (σ : TypeScheme) (st u : Progress) → AreMoved k st u
    → (new_instance (put_scheme (moved k) σ) u).0 ≡ put (moved k) (new_instance σ st).0
instance_is_moved k σ st u h =
    fill_moved k (λ i. Ty.Var (st.types.next + i)) (λ i. Ty.Var (u.types.next + i)) Ty.Var Ty.Var σ.body
    (λ i. let e : u.types.next ≡ st.types.next + k = h.types.next in ap Ty.Var (omega (arith, e))) (λ n. refl)

args_moved : (k : ℕ) (args : List Ty) (i : ℕ)
    → get_or (map (put (moved k)) args) i unit_ty ≡ put (moved k) (get_or args i unit_ty)
args_moved k [] zero = refl
args_moved k [] (suc i) = refl
args_moved k (t ∷ ts) zero = refl
args_moved k (t ∷ ts) (suc i) = args_moved k ts i

abbrev pub put_function : Substitution → TypeFn → TypeFn
put_function s function = record { arity = function.arity; body = put_tree s function.body }

pub applied_to_moved : (k : ℕ) (function : TypeFn) (args : List Ty)
    → applied_to (put_function (moved k) function) (map (put (moved k)) args) ≡ put (moved k) (applied_to function args)
applied_to_moved k function args =
    fill_moved k (λ i. get_or args i unit_ty) (λ i. get_or (map (put (moved k)) args) i unit_ty) Ty.Var Ty.Var
    function.body (args_moved k args) (λ n. refl)

pub seen_moved : (k : ℕ) (s r : State) (x : Tree) → IsMoved k s r
    → seen r.stands (put_tree (moved k) x) ≡ put (moved k) (seen s.stands x)
seen_moved k s r x h = fill_moved k (λ i. unit_ty) (λ i. unit_ty) s.stands r.stands x (λ i. refl) h.stands

-- ---- closing

abbrev pub later : ℕ → List ℕ → List ℕ
later k vs = map (λ v. v + k) vs

among_moved : (k n : ℕ) (vs : List ℕ) → is_among (n + k) (later k vs) ≡ is_among n vs
among_moved k n [] = refl
among_moved k n (v ∷ vs) = ap₂ (λ a b. a || b) (eqb_moved k n v) (among_moved k n vs)

place_moved : (k n : ℕ) (vs : List ℕ) → place_of (n + k) (later k vs) ≡ place_of n vs
place_moved k n [] = refl
place_moved k n (v ∷ vs) = ap₂ (λ a b. cond a zero (suc b)) (eqb_moved k n v) (place_moved k n vs)

chosen : (k n i : ℕ) (b : Bool)
    → cond b (Tree.Bound i) (Tree.Free (n + k)) ≡ put_tree (moved k) (cond b (Tree.Bound i) (Tree.Free n))
chosen k n i true = refl
chosen k n i false = refl

mutual
  pub closed_moved : (k : ℕ) (vs : List ℕ) (t : Ty)
      → closed_over (later k vs) (put (moved k) t) ≡ put_tree (moved k) (closed_over vs t)
  closed_moved k vs (Ty.Var n) =
      ap₂ (λ a i. cond a (Tree.Bound i) (Tree.Free (n + k))) (among_moved k n vs) (place_moved k n vs)
      ∙ chosen k n (place_of n vs) (is_among n vs)
  closed_moved k vs (Ty.Made c ts) = ap (Tree.Made c) (closed_all_moved k vs ts)

  closed_all_moved : (k : ℕ) (vs : List ℕ) (ts : Types)
      → closed_over_all (later k vs) (put_all (moved k) ts) ≡ put_trees (moved k) (closed_over_all vs ts)
  closed_all_moved k vs Types.Nil = refl
  closed_all_moved k vs (Types.Cons t ts) = ap₂ Trees.Cons (closed_moved k vs t) (closed_all_moved k vs ts)

-- two ways to tell what is kept that agree on what moved
abbrev pub KeepsAlike : ℕ → (ℕ → Bool) → (ℕ → Bool) → Type 0
KeepsAlike k kept other = (n : ℕ) → other (n + k) ≡ kept n

noticed_or : (k n : ℕ) (b : Bool) (vs : List ℕ)
    → cond b (later k vs) (later k vs ++ (n + k) ∷ []) ≡ later k (cond b vs (vs ++ n ∷ []))
noticed_or k n true vs = refl
noticed_or k n false vs = sym (map-append (λ v. v + k) vs (n ∷ []))

mutual
  pub found_moved : (k : ℕ) (kept other : ℕ → Bool) (t : Ty) (vs : List ℕ) → KeepsAlike k kept other
      → found_in other (put (moved k) t) (later k vs) ≡ later k (found_in kept t vs)
  found_moved k kept other (Ty.Var n) vs h =
      ap (λ b. cond b (later k vs) (later k vs ++ (n + k) ∷ [])) (ap₂ (λ a b. a || b) (h n) (among_moved k n vs))
      ∙ noticed_or k n (kept n || is_among n vs) vs
  found_moved k kept other (Ty.Made c ts) vs h = found_all_moved k kept other ts vs h

  found_all_moved : (k : ℕ) (kept other : ℕ → Bool) (ts : Types) (vs : List ℕ) → KeepsAlike k kept other
      → found_in_all other (put_all (moved k) ts) (later k vs) ≡ later k (found_in_all kept ts vs)
  found_all_moved k kept other Types.Nil vs h = refl
  found_all_moved k kept other (Types.Cons t ts) vs h =
      ap (found_in_all other (put_all (moved k) ts)) (found_moved k kept other t vs h)
      ∙ found_all_moved k kept other ts (found_in kept t vs) h

marks_moved : (k : ℕ) (q p : Marks) (vs : List ℕ) → ((n : ℕ) → p (n + k) ≡ q n) → map p (later k vs) ≡ map q vs
marks_moved k q p [] h = refl
marks_moved k q p (v ∷ vs) h = ap₂ (λ a b. a ∷ b) (h v) (marks_moved k q p vs h)

abbrev scheme : List Bool → Tree → TypeScheme
scheme marks body = record { marks = marks; body = body }

pub scheme_moved : (k : ℕ) (vs : List ℕ) (q p : Marks) (t : Ty) → ((n : ℕ) → p (n + k) ≡ q n)
    → scheme_over (later k vs) p (put (moved k) t) ≡ put_scheme (moved k) (scheme_over vs q t)
scheme_moved k vs q p t h = ap₂ scheme (marks_moved k q p vs h) (closed_moved k vs t)

abbrev function_of : ℕ → Tree → TypeFn
function_of arity body = record { arity = arity; body = body }

pub function_moved : (k : ℕ) (vs : List ℕ) (t : Ty)
    → type_function (later k vs) (put (moved k) t) ≡ put_function (moved k) (type_function vs t)
function_moved k vs t = ap₂ function_of (length-map vs (λ v. v + k)) (closed_moved k vs t)

-- ---- variables of patterns

pub entry_moved : (k : ℕ) (t : Ty)
    → variable_entry (put (moved k) t) ≡ put_value (moved k) (variable_entry t)
entry_moved k t = ap (λ x. let v : ValueEntry = record {
  status = (variable_entry t).status;
  scheme = record { marks = []; body = x };
} in v) (closed_moved k [] t)

pub bound_moved : (k : ℕ) (rows : Bound) (env : Env)
    → with_bound (put_rows (moved k) rows) (put_env (moved k) env) ≡ put_env (moved k) (with_bound rows env)
bound_moved k [] env = refl
bound_moved k (row ∷ rows) env =
    ap (with_bound (put_rows (moved k) rows)) (ap (λ v. with_value row.0 v (put_env (moved k) env)) (entry_moved k row.1)
    ∙ put_with_value (moved k) row.0 (variable_entry row.1) env)
    ∙ bound_moved k rows (with_value row.0 (variable_entry row.1) env)

-- ---- what is looked up in an environment

any_moved : (f : Tree → Tree) (test other : Tree → Bool) (xs : List Tree) → ((x : Tree) → other (f x) ≡ test x)
    → list_any other (map f xs) ≡ list_any test xs
any_moved f test other [] h = refl
any_moved f test other (x ∷ xs) h = ap₂ (λ a b. a || b) (h x) (any_moved f test other xs h)

pub free_moved : (k v : ℕ) (s r : State) (env : Env) → IsMoved k s r
    → free_in_env (v + k) r.stands (put_env (moved k) env) ≡ free_in_env v s.stands env
free_moved k v s r env h =
    ap (list_any (λ x. occurs (v + k) (seen r.stands x))) (put_bodies (moved k) env)
    ∙ any_moved (put_tree (moved k)) (λ x. occurs v (seen s.stands x)) (λ x. occurs (v + k) (seen r.stands x))
    (bodies env)
    (λ x. ap (occurs (v + k)) (seen_moved k s r x h) ∙ occurs_moved k v (seen s.stands x))

pub env_large_moved : (k : ℕ) (s r : State) (env : Env) → IsMoved k s r
    → has_too_large r.stands (put_env (moved k) env) ≡ has_too_large s.stands env
env_large_moved k s r env h =
    ap (list_any (λ x. is_too_large (seen r.stands x))) (put_bodies (moved k) env)
    ∙ any_moved (put_tree (moved k)) (λ x. is_too_large (seen s.stands x)) (λ x. is_too_large (seen r.stands x))
    (bodies env)
    (λ x. ap is_too_large (seen_moved k s r x h) ∙ large_moved k (seen s.stands x))

written_moved : (k v : ℕ) (s r : State) (rows : List (List ℕ × Ty)) → IsMoved k s r
    → free_in_written (v + k) r.stands (put_rows (moved k) rows) ≡ free_in_written v s.stands rows
written_moved k v s r [] h = refl
written_moved k v s r (row ∷ rows) h = ap₂ (λ a b. a || b)
    (ap (occurs (v + k)) (known_moved k s r row.1 h) ∙ occurs_moved k v (put s.stands row.1))
    (written_moved k v s r rows h)

pub kept_moved : (k v : ℕ) (sc : Scope) (s r : State) → IsMoved k s r
    → is_kept (put_scope (moved k) sc) r.stands (v + k) ≡ is_kept sc s.stands v
kept_moved k v sc s r h =
    ap₂ (λ a b. a || b) (free_moved k v s r sc.env h) (written_moved k v s r sc.written h)
