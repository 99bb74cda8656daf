-- A scope around is one under two choices, where what stands for its variables is.
use Rattle.std.proofs.Common.{◌≡◌, ℕ, List, [], ◌∷◌, ◌++◌, map, refl, ap, ap₂, ◌∙◌, Bool, true, false}
use Rattle.std.specs.List.{list_any}
use Rattle.semantic_objects.specs.declared.entry.ConEntry.{ConEntry}
use Rattle.semantic_objects.specs.declared.entry.TypeStr.{TypeStr}
use Rattle.semantic_objects.specs.declared.entry.ValueEntry.{ValueEntry}
use Rattle.semantic_objects.specs.Tables.{Table}
use Rattle.semantic_objects.specs.Trees.{Tree, Trees}
use Rattle.semantic_objects.specs.Environments.{Env, Structures}
use Rattle.unification.specs.Types.{Ty, Substitution, State, put, occurs, occurs_any}
use Rattle.unification.specs.Instances.{fill_all}
use Rattle.unification.specs.Closing.{closed_over, put_tree, put_trees}
use Rattle.unification.proofs.Walking.{or_left, or_right}
use Rattle.static_semantics.specs.BasicTypes.{unit_ty}
use Rattle.static_semantics.specs.Inferring.{Scope, seen, con_bodies, type_bodies, value_bodies, bodies, structure_bodies, free_in_env, free_in_written, is_kept}
use Rattle.static_semantics.specs.EnvironmentsPut.{put_con, put_type, put_value, each_entry, put_env, put_structures, put_rows, put_scope}
use Rattle.static_semantics.specs.Holding.{AllItems}
use Rattle.inference_laws.proofs.Making.{items_left, items_right}
use Rattle.reopening_laws.specs.Reopening.{Reopened}

-- ---- environments whose trees are one under two choices

module _ (s q : Substitution) where
  abbrev SameTree : Tree → Type 0
  SameTree x = put_tree s x ≡ put_tree q x

  cons_same : (cons : List ConEntry) → AllItems SameTree (con_bodies cons)
      → map (put_con s) cons ≡ map (put_con q) cons
  cons_same [] h = refl
  cons_same (con ∷ cons) h = ap₂ (λ (x : Tree) (y : List ConEntry).
      (let made : ConEntry = record { name = con.name; scheme = record { marks = con.scheme.marks; body = x } } in made)
      ∷ y) h.0 (cons_same cons h.1)

  types_same : (rows : Table TypeStr) → AllItems SameTree (type_bodies rows)
      → each_entry (put_type s) rows ≡ each_entry (put_type q) rows
  types_same [] h = refl
  types_same (row ∷ rows) h = ap₂ (λ (x : TypeStr) (y : Table TypeStr). (row.0, x) ∷ y)
      (ap₂ (λ (x : Tree) (y : List ConEntry). (let made : TypeStr = record {
        function = record { arity = row.1.function.arity; body = x };
        cons = y;
      } in made)) h.0 (cons_same row.1.cons (items_left SameTree (con_bodies row.1.cons) (type_bodies rows) h.1)))
      (types_same rows (items_right SameTree (con_bodies row.1.cons) (type_bodies rows) h.1))

  values_same : (rows : Table ValueEntry) → AllItems SameTree (value_bodies rows)
      → each_entry (put_value s) rows ≡ each_entry (put_value q) rows
  values_same [] h = refl
  values_same (row ∷ rows) h = ap₂ (λ (x : Tree) (y : Table ValueEntry). (
    row.0,
    (let made : ValueEntry = record {
      status = row.1.status;
      scheme = record { marks = row.1.scheme.marks; body = x };
    } in made),
  ) ∷ y) h.0 (values_same rows h.1)

  mutual
    env_same : (env : Env) → AllItems SameTree (bodies env) → put_env s env ≡ put_env q env
    env_same (Env.MakeEnv ss ts vs) h =
        let more : AllItems SameTree (type_bodies ts ++ value_bodies vs) =
        items_right SameTree (structure_bodies ss) (type_bodies ts ++ value_bodies vs) h in
        ap₂ (λ (x : Structures) (z : Table ValueEntry). Env.MakeEnv x (each_entry (put_type s) ts) z)
        (structures_same ss (items_left SameTree (structure_bodies ss) (type_bodies ts ++ value_bodies vs) h))
        (values_same vs (items_right SameTree (type_bodies ts) (value_bodies vs) more))
        ∙ ap (λ (y : Table TypeStr). Env.MakeEnv (put_structures q ss) y (each_entry (put_value q) vs))
        (types_same ts (items_left SameTree (type_bodies ts) (value_bodies vs) more))

    structures_same : (ss : Structures) → AllItems SameTree (structure_bodies ss)
        → put_structures s ss ≡ put_structures q ss
    structures_same Structures.Nil h = refl
    structures_same (Structures.Cons name env rest) h = ap₂ (Structures.Cons name)
        (env_same env (items_left SameTree (bodies env) (structure_bodies rest) h))
        (structures_same rest (items_right SameTree (bodies env) (structure_bodies rest) h))

-- ---- around a `val`

-- what holds of a variable wherever it stands in one of several holds of it in each
each_of : {A : Type 0} (K : ℕ → Type 0) (f : ℕ → A → Bool) (xs : List A)
    → ((v : ℕ) → list_any (f v) xs ≡ true → K v) → AllItems (λ x. (v : ℕ) → f v x ≡ true → K v) xs
each_of K f [] h = tt
each_of K f (x ∷ xs) h = (
  λ v e. h v (or_left (f v x) (list_any (f v) xs) e),
  each_of K f xs (λ v e. h v (or_right (f v x) (list_any (f v) xs) e)),
)

module _ (closes : ℕ → Bool) (p u : State) (r : Reopened closes p u) where
  abbrev IsOpen : ℕ → Type 0
  IsOpen v = closes v ≡ false

  mutual
    tree_around : (x : Tree) → ((v : ℕ) → occurs v (seen u.stands x) ≡ true → IsOpen v)
        → put_tree r.inside.stands x ≡ put_tree p.stands x
    tree_around (Tree.Bound i) h = refl
    tree_around (Tree.Free n) h = ap (closed_over []) (r.around (Ty.Var n) h)
    tree_around (Tree.Made c ts) h = ap (Tree.Made c) (trees_around ts h)

    trees_around : (xs : Trees)
        → ((v : ℕ) → occurs_any v (fill_all (λ i. unit_ty) u.stands xs) ≡ true → IsOpen v)
        → put_trees r.inside.stands xs ≡ put_trees p.stands xs
    trees_around Trees.Nil h = refl
    trees_around (Trees.Cons x xs) h = ap₂ Trees.Cons
        (tree_around x (λ v e. h v (or_left (occurs v (seen u.stands x))
        (occurs_any v (fill_all (λ i. unit_ty) u.stands xs)) e)))
        (trees_around xs (λ v e. h v (or_right (occurs v (seen u.stands x))
        (occurs_any v (fill_all (λ i. unit_ty) u.stands xs)) e)))

  all_around : (xs : List Tree) → AllItems (λ x. (v : ℕ) → occurs v (seen u.stands x) ≡ true → IsOpen v) xs
      → AllItems (λ x. put_tree r.inside.stands x ≡ put_tree p.stands x) xs
  all_around [] h = tt
  all_around (x ∷ xs) h = (tree_around x h.0, all_around xs h.1)

  rows_around : (rows : List (List ℕ × Ty))
      → AllItems (λ (row : List ℕ × Ty). (v : ℕ) → occurs v (put u.stands row.1) ≡ true → IsOpen v) rows
      → put_rows r.inside.stands rows ≡ put_rows p.stands rows
  rows_around [] h = refl
  rows_around (row ∷ rows) h =
      ap₂ (λ (x : Ty) (y : List (List ℕ × Ty)). (row.0, x) ∷ y) (r.around row.1 h.0) (rows_around rows h.1)

  -- where nothing is closed that is kept
  pub scope_around : (sc : Scope) → ((v : ℕ) → is_kept sc u.stands v ≡ true → IsOpen v)
      → put_scope r.inside.stands sc ≡ put_scope p.stands sc
  scope_around sc h = ap₂ (λ (x : Env) (y : List (List ℕ × Ty)).
      (let made : Scope = record { env = x; written = y; home = sc.home } in made))
      (env_same r.inside.stands p.stands sc.env (all_around (bodies sc.env)
      (each_of IsOpen (λ v x. occurs v (seen u.stands x)) (bodies sc.env)
      (λ v e. h v (or_left (free_in_env v u.stands sc.env) (free_in_written v u.stands sc.written) e)))))
      (rows_around sc.written (each_of IsOpen (λ v row. occurs v (put u.stands row.1)) sc.written
      (λ v e. h v (or_right (free_in_env v u.stands sc.env) (free_in_written v u.stands sc.written) e))))
