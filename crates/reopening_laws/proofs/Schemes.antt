-- The variables of a `val` have their schemes under a choice around, with their types under one inside.
use Rattle.std.proofs.Common.{◌≡◌, ℕ, ◌+◌, ◌<◌, ◌≤◌, List, [], ◌∷◌, ◌++◌, map, refl, sym, ap, ◌∙◌, subst, arith, Bool, true, false, ◌&&◌, not, cond, inl, inr}
use Rattle.std.proofs.lemmas.Bool.{eq-eqb, eqb-true, ltb-true}
use Rattle.std.specs.Prelude.{eqb, ltb}
use Rattle.std.specs.List.{list_any}
use Rattle.semantic_objects.specs.declared.entry.ValueEntry.{ValueEntry}
use Rattle.semantic_objects.specs.declared.entry.VidStatus.TheVariants as status
use Rattle.semantic_objects.specs.Trees.{Tree, TypeScheme, frees, frees_any}
use Rattle.semantic_objects.specs.Environments.{Env, with_value}
use Rattle.unification.specs.Types.{Ty, Types, Substitution, State, put, occurs, occurs_any}
use Rattle.unification.specs.Unification.{Solves}
use Rattle.unification.specs.Closing.{is_among, place_of, found_in, closed_over, closed_over_all, held_below, put_tree, put_trees}
use Rattle.unification.specs.Fitting.{IsFit}
use Rattle.unification.proofs.Walking.{or_left, or_right, or_either}
use Rattle.unification.proofs.Promised.{closes_types}
use Rattle.unification.proofs.Putting.{put_solved}
use Rattle.unification.proofs.Filling.{put_fill}
use Rattle.static_semantics.specs.BasicTypes.{unit_ty}
use Rattle.static_semantics.specs.Inferring.{Progress, Scope, Bound, seen, bodies, free_in_env, free_in_written, is_kept}
use Rattle.static_semantics.specs.CoreInference.{Group, closed_where, closed_variables, closed_groups}
use Rattle.static_semantics.specs.RuleConditions.{HasScheme, Schemes, HaveSchemes, GroupsHaveSchemes, schemes_env, groups_env, groups_bound, IsSeen}
use Rattle.static_semantics.specs.EnvironmentsPut.{put_scheme, put_env, put_rows, put_scope}
use Rattle.static_semantics.specs.Holding.{AllItems, AllRows}
use Rattle.static_semantics.specs.Growing.{ScopeIn, EnvIn}
use Rattle.static_semantics.proofs.Growing.{within_at}
use Rattle.static_semantics.proofs.Ages.{kept_aged}
use Rattle.inference_laws.specs.Promises.{Any}
use Rattle.inference_laws.proofs.SeenLater.{put_closed}
use Rattle.reopening_laws.specs.Reopening.{Reopened, OpenInside}
use Rattle.phrase_laws.proofs.Finding.{rows_after_put, with_value_put}
use Rattle.reopening_laws.proofs.Closing.{kept_or, open_inside}
use Rattle.reopening_laws.proofs.Keeping.{free_put, kept_put, new_apart}

-- ---- what is kept, in what a choice puts in for it

any_lifts : {A : Type 0} (f g : A → Bool) (xs : List A) → ((x : A) → f x ≡ true → g x ≡ true)
    → list_any f xs ≡ true → list_any g xs ≡ true
any_lifts f g [] h e = e
any_lifts f g (x ∷ xs) h e = or_either (f x) (list_any f xs) e
    (λ i. or_left (g x) (list_any g xs) (h x i))
    (λ i. or_right (g x) (list_any g xs) (any_lifts f g xs h i))

put_through : (p u : State) (n v : ℕ) (t : Ty) → Solves p u → occurs n (put u.stands t) ≡ true
    → occurs v (p.stands n) ≡ true → occurs v (put p.stands t) ≡ true
put_through p u n v t q e i = subst (λ z. occurs v z ≡ true) (put_solved p u t q)
    (within_at (λ m. occurs m (put p.stands (put u.stands t)) ≡ true) p.stands n (put u.stands t) e (λ m j. j) v i)

seen_as : (s : Substitution) (x : Tree) → seen s x ≡ put s (seen Ty.Var x)
seen_as s x = sym (put_fill s (λ i. unit_ty) Ty.Var x)

kept_through : (sc : Scope) (p u : State) (n v : ℕ) → Solves p u → is_kept sc u.stands n ≡ true
    → occurs v (p.stands n) ≡ true → is_kept sc p.stands v ≡ true
kept_through sc p u n v q h i = or_either (free_in_env n u.stands sc.env) (free_in_written n u.stands sc.written) h
    (λ e. or_left (free_in_env v p.stands sc.env) (free_in_written v p.stands sc.written)
    (any_lifts (λ x. occurs n (seen u.stands x)) (λ x. occurs v (seen p.stands x)) (bodies sc.env)
    (λ x j. subst (λ z. occurs v z ≡ true) (sym (seen_as p.stands x))
    (put_through p u n v (seen Ty.Var x) q (subst (λ z. occurs n z ≡ true) (seen_as u.stands x) j) i)) e))
    (λ e. or_right (free_in_env v p.stands sc.env) (free_in_written v p.stands sc.written)
    (any_lifts (λ (row : List ℕ × Ty). occurs n (put u.stands row.1)) (λ (row : List ℕ × Ty).
    occurs v (put p.stands row.1)) sc.written (λ row j. put_through p u n v row.1 q j i) e))

-- ---- what is free in a closed type under a choice

mutual
  pub occurs_closed : (v : ℕ) (t : Ty) → frees v (closed_over [] t) ≡ true → occurs v t ≡ true
  occurs_closed v (Ty.Var n) h = h
  occurs_closed v (Ty.Made c ts) h = occurs_closed_all v ts h

  occurs_closed_all : (v : ℕ) (ts : Types) → frees_any v (closed_over_all [] ts) ≡ true → occurs_any v ts ≡ true
  occurs_closed_all v Types.Nil h = h
  occurs_closed_all v (Types.Cons t ts) h = or_either (frees v (closed_over [] t)) (frees_any v (closed_over_all [] ts)) h
      (λ e. or_left (occurs v t) (occurs_any v ts) (occurs_closed v t e))
      (λ e. or_right (occurs v t) (occurs_any v ts) (occurs_closed_all v ts e))

module _ (s : Substitution) (vs : List ℕ) (v : ℕ) (P : Type 0) where
  abbrev Left : ℕ → Type 0
  Left n = is_among n vs ≡ false → occurs v (s n) ≡ true → P

  free_at : (n : ℕ) (c : Bool) → is_among n vs ≡ c → Left n
      → frees v (put_tree s (cond c (Tree.Bound (place_of n vs)) (Tree.Free n))) ≡ true → P
  free_at n true a h e = absurd (cc)
  free_at n false a h e = h a (occurs_closed v (s n) e)

  mutual
    -- it stands in what was put in for a variable that was left free
    free_in : (t : Ty) → ((n : ℕ) → occurs n t ≡ true → Left n) → frees v (put_tree s (closed_over vs t)) ≡ true → P
    free_in (Ty.Var n) h e = free_at n (is_among n vs) refl (h n (eq-eqb n n refl)) e
    free_in (Ty.Made c ts) h e = free_in_all ts h e

    free_in_all : (ts : Types) → ((n : ℕ) → occurs_any n ts ≡ true → Left n)
        → frees_any v (put_trees s (closed_over_all vs ts)) ≡ true → P
    free_in_all Types.Nil h e = absurd (cc)
    free_in_all (Types.Cons t ts) h e = or_either (frees v (put_tree s (closed_over vs t)))
        (frees_any v (put_trees s (closed_over_all vs ts))) e
        (λ i. free_in t (λ n j. h n (or_left (occurs n t) (occurs_any n ts) j)) i)
        (λ i. free_in_all ts (λ n j. h n (or_right (occurs n t) (occurs_any n ts) j)) i)

-- ---- the schemes

-- the variables of a type that are closed inside are those that its scheme is over
abbrev pub ClosesOf : (ℕ → Bool) → (ℕ → Bool) → State → Bool → Ty → Type 0
ClosesOf closes kept u closed t = (n : ℕ) → occurs n (put u.stands t) ≡ true → closes n ≡ (closed && not (kept n))

abbrev pub GroupCloses : (ℕ → Bool) → (ℕ → Bool) → State → Group → Type 0
GroupCloses closes kept u group = AllRows (ClosesOf closes kept u group.0) group.1

abbrev pub put_groups : Substitution → List Group → List Group
put_groups s groups = map (λ (group : Group). (group.0, put_rows s group.1)) groups

pub groups_bound_put : (s : Substitution) (groups : List Group)
    → groups_bound (put_groups s groups) ≡ put_rows s (groups_bound groups)
groups_bound_put s [] = refl
groups_bound_put s (group ∷ groups) = ap (λ z. put_rows s group.1 ++ z) (groups_bound_put s groups)
    ∙ sym (rows_after_put s group.1 (groups_bound groups))

module _ (sc : Scope) (st : Progress) (p : State) (closes : ℕ → Bool) (h : IsFit st.types) (q : Solves p st.types)
    (k : ScopeIn Any st.types sc) (r : Reopened closes p st.types) where
  abbrev kept : ℕ → Bool
  kept = is_kept sc st.types.stands

  abbrev around : Scope
  around = put_scope p.stands sc

  abbrev pub under_choice : Bool → Ty → TypeScheme
  under_choice closed t = put_scheme p.stands (closed_where closed kept st.types t)

  among_apart : (vs : List ℕ) (v : ℕ) → is_among v (map (λ w. r.from + w) vs) ≡ true
      → is_kept around Ty.Var v ≡ false
  among_apart [] v e = absurd (cc)
  among_apart (w ∷ vs) v e = or_either (eqb v (r.from + w)) (is_among v (map (λ w. r.from + w) vs)) e
      (λ i. subst (λ z. is_kept around Ty.Var z ≡ false) (sym (eqb-true v (r.from + w) i))
      (new_apart closes p sc st r k w))
      (λ i. among_apart vs v i)

  over : (t : Ty) → ClosesOf closes kept st.types true t → HasScheme true r.inside.marks around
      (put r.inside.stands t) (under_choice true t)
  over t agree =
      let vs : List ℕ = found_in kept (put st.types.stands t) [] in
      let o : OpenInside kept p st.types r.inside r.from t = open_inside kept closes p st.types h r t agree in (
        map (λ v. r.from + v) vs,
        (record {
          differ = o.differ;
          apart = λ v e. among_apart vs v e;
          marks = o.marks;
          bound = o.bound;
          opened = o.opened;
          all = λ v e. kept_put p.stands v sc ∙ free_in p.stands vs v (is_kept sc p.stands v ≡ true)
              (put st.types.stands t)
              (λ n i a j. kept_through sc p st.types n v q (kept_or kept closes p st.types h r t agree n i a) j) e;
        }),
      )

  as_it_is : (t : Ty) → ClosesOf closes kept st.types false t → HasScheme false r.inside.marks around
      (put r.inside.stands t) (under_choice false t)
  as_it_is t apart = ap (λ (x : Tree). (let made : TypeScheme = record { marks = []; body = x } in made))
      (put_closed p.stands (put st.types.stands t)
      ∙ ap (closed_over []) (put_solved p st.types t q ∙ sym (r.around t apart)))

  has_scheme : (closed : Bool) (t : Ty) → ClosesOf closes kept st.types closed t
      → HasScheme closed r.inside.marks around (put r.inside.stands t) (under_choice closed t)
  has_scheme true t h = over t h
  has_scheme false t h = as_it_is t h

  abbrev pub schemes_of : Bool → Bound → Schemes
  schemes_of closed rows = map (λ (row : List ℕ × Ty). (row.0, under_choice closed row.1)) rows

  have_schemes : (closed : Bool) (rows : Bound) → AllRows (ClosesOf closes kept st.types closed) rows
      → HaveSchemes closed r.inside.marks around (put_rows r.inside.stands rows) (schemes_of closed rows)
  have_schemes closed [] h = tt
  have_schemes closed (row ∷ rows) h = (refl, has_scheme closed row.1 h.0, have_schemes closed rows h.1)

  abbrev pub all_schemes : List Group → List Schemes
  all_schemes groups = map (λ (group : Group). schemes_of group.0 group.1) groups

  pub groups_have_schemes : (groups : List Group) → AllItems (GroupCloses closes kept st.types) groups
      → GroupsHaveSchemes r.inside.marks around (put_groups r.inside.stands groups) (all_schemes groups)
  groups_have_schemes [] h = tt
  groups_have_schemes (group ∷ groups) h = (have_schemes group.0 group.1 h.0, groups_have_schemes groups h.1)

  variables_made : (closed : Bool) (rows : Bound) (env : Env)
      → put_env p.stands (closed_variables closed kept st.types rows env)
      ≡ schemes_env (schemes_of closed rows) (put_env p.stands env)
  variables_made closed [] env = refl
  variables_made closed (row ∷ rows) env =
      let value : ValueEntry = record {
        status = status.Variable;
        scheme = closed_where closed kept st.types row.1;
      } in
      variables_made closed rows (with_value row.0 value env)
      ∙ ap (schemes_env (schemes_of closed rows)) (sym (with_value_put p.stands row.0 value env))

  pub groups_made : (groups : List Group) (env : Env)
      → put_env p.stands (closed_groups kept st.types groups env)
      ≡ groups_env (all_schemes groups) (put_env p.stands env)
  groups_made [] env = refl
  groups_made (group ∷ groups) env = groups_made groups (closed_variables group.0 kept st.types group.1 env)
      ∙ ap (groups_env (all_schemes groups)) (variables_made group.0 group.1 env)

  -- ---- what is seen around is below what was put in inside

  kept_below : (other : Scope) (v : ℕ) → ScopeIn Any st.types other → is_kept other p.stands v ≡ true → v < r.from
  kept_below other v l e = or_either (ltb v st.types.next) (held_below st.types.next p.stands v)
      (kept_aged other st p.stands v l e)
      (λ i. let below : v < st.types.next = ltb-true v st.types.next i in
      let new : st.types.next ≤ r.from = r.new in omega (arith, below, new))
      (λ i. let w = (closes_types.held st.types.next p.stands v).0 i in r.below w.0 w.1 v w.2)

  pub free_below : (made : Env) (v : ℕ) → EnvIn Any st.types made
      → free_in_env v Ty.Var (put_env p.stands made) ≡ true → v < r.from
  free_below made v l e =
      let other : Scope = record { env = made; written = []; home = sc.home } in
      kept_below other v (record { env = l; written = tt })
      (or_left (free_in_env v p.stands made) false (sym (free_put p.stands v made) ∙ e))

  pub marks_agree : (made : Env) (v : ℕ) → EnvIn Any st.types made → IsSeen around (put_env p.stands made) v
      → r.inside.marks v ≡ p.marks v
  marks_agree made v l (inl e) = r.marks v (kept_below sc v k (sym (kept_put p.stands v sc) ∙ e))
  marks_agree made v l (inr e) = r.marks v (free_below made v l e)
