-- Steps of expressions and of `val` move with the variables.
use Rattle.std.proofs.Common.{◌≡◌, ℕ, ◌+◌, List, [], ◌∷◌, ◌++◌, map, drop, length, refl, sym, ap, ap₂, ◌∙◌, subst, Option, Some, None, Bool, true, false, ◌||◌, ◌&&◌, cond, not}
use Rattle.std.proofs.lemmas.List.{map-append, length-map}
use Rattle.std.specs.Prelude.{Ok}
use Rattle.sml_trees.specs.declared.name.At.{At}
use Rattle.sml_trees.specs.declared.name.Name.{Name}
use Rattle.sml_trees.specs.declared.name.LongName.{LongName}
use Rattle.semantic_objects.specs.declared.entry.ValueEntry.{ValueEntry}
use Rattle.semantic_objects.specs.declared.entry.VidStatus.TheVariants as status
use Rattle.semantic_objects.specs.Trees.{TypeScheme}
use Rattle.semantic_objects.specs.Environments.{Env, values, empty_env, with_value}
use Rattle.unification.specs.Types.{Ty, Types, State, put, put_all}
use Rattle.unification.specs.Closing.{found_in, scheme_over}
use Rattle.bare_phrases.specs.Phrases.{PatPhrase, ExpPhrase, ExpFields, Rules}
use Rattle.static_semantics.specs.BasicTypes.{exn_ty, arrow_ty}
use Rattle.static_semantics.specs.Inferring.{Progress, Scope, ◌>>=◌, known, unify_at, found_at, is_named, new_variable, Bound, under_bound, is_kept, is_too_large, has_too_large, sized_exp, sized_dec}
use Rattle.static_semantics.specs.Nonexpansive.{ends_in_ref, constructs, is_nonexpansive, are_nonexpansive}
use Rattle.static_semantics.specs.TypeInference.{new_rigid, listed}
use Rattle.static_semantics.specs.WrittenVariables.{written_in}
use Rattle.static_semantics.specs.PatternInference.{pat_at, infer_pat}
use Rattle.static_semantics.specs.CoreInference.{known_exp, applied, joined, handled, raised, is_made_between, holds_made, any_holds_made, within_let, implicit, own_variables, Group, added, names_variable, is_variable, RecPats, infer_rec_pats, rec_bound, rec_groups, closed_where, closed_variables, closed_groups, left_over, none_left, closed_val}
use Rattle.static_semantics.specs.EnvironmentsPut.{put_scheme, put_value, put_env, put_rows, put_scope}
use Rattle.renaming_laws.specs.Moved.{moved, IsMoved, AreMoved, Both, MovesIn}
use Rattle.renaming_laws.proofs.Unifying.{known_moved, unify_at_moved}
use Rattle.renaming_laws.proofs.Answers.{both_then, plain_then, moves_then, both_move_then, both_where}
use Rattle.renaming_laws.proofs.Environments.{map_drop, each_is_named, put_con_found, put_con_named, put_with_value}
use Rattle.renaming_laws.proofs.Closing.{new_moved, new_is_moved, rigid_moved, instance_moved, instance_is_moved, KeepsAlike, found_moved, scheme_moved, bound_moved, free_moved, env_large_moved, kept_moved}
use Rattle.renaming_laws.proofs.TypesMoved.{later_rows, row_after, listed_moved, value_found_moved}
use Rattle.renaming_laws.proofs.PatternsMoved.{size_known, pat_moved}

abbrev pub ExpsMove : ℕ → Ty × Progress → Ty × Progress → Type 0
ExpsMove k = MovesIn k (put (moved k))

abbrev pub DecsMove : ℕ → Env × Progress → Env × Progress → Type 0
DecsMove k = MovesIn k (put_env (moved k))

pub exp_sized : (k : ℕ) (sc : Scope) (at : At) (t : Ty) (st u : Progress) → AreMoved k st u
    → Both (ExpsMove k) (sized_exp sc at (t, st)) (sized_exp (put_scope (moved k) sc) at (put (moved k) t, u))
exp_sized k sc at t st u h =
    both_where k (ExpsMove k) (is_too_large (put st.types.stands t))
    (is_too_large (put u.types.stands (put (moved k) t))) 38 sc at _ _ (size_known k t st u h) (refl, h)

pub dec_sized : (k : ℕ) (sc : Scope) (at : At) (env : Env) (st u : Progress) → AreMoved k st u
    → Both (DecsMove k) (sized_dec sc at (env, st)) (sized_dec (put_scope (moved k) sc) at (put_env (moved k) env, u))
dec_sized k sc at env st u h =
    both_where k (DecsMove k) (has_too_large st.types.stands env)
    (has_too_large u.types.stands (put_env (moved k) env)) 38 sc at _ _
    (env_large_moved k st.types u.types env h.types) (refl, h)

-- ---- steps of expressions

pub known_exp_moved : (k : ℕ) (sc : Scope) (long : LongName) (st u : Progress) → AreMoved k st u
    → Both (ExpsMove k) (known_exp sc long st) (known_exp (put_scope (moved k) sc) long u)
known_exp_moved k sc long st u h =
    plain_then (put_value (moved k)) (ExpsMove k) (known sc long (found_at values long.parts sc.env))
    (known (put_scope (moved k) sc) long (found_at values long.parts (put_env (moved k) sc.env))) _ _
    (value_found_moved k sc long)
    (λ v. (instance_is_moved k v.scheme st u h, instance_moved k v.scheme st u h))

pub applied_moved : (k depth : ℕ) (sc : Scope) (at : At) (f a : Ty) (st u : Progress) → AreMoved k st u
    → Both (ExpsMove k) (applied depth sc at f a st)
    (applied depth (put_scope (moved k) sc) at (put (moved k) f) (put (moved k) a) u)
applied_moved k depth sc at f a st u h =
    subst (λ z. Both (ExpsMove k) (applied depth sc at f a st)
    (unify_at depth (put_scope (moved k) sc) at (put (moved k) f) (arrow_ty (put (moved k) a) z) (new_variable u).1
    >>= λ w. Some (Ok (z, w)))) (sym (new_is_moved k st u h))
    (both_then (AreMoved k) (ExpsMove k) (unify_at depth sc at f (arrow_ty a (new_variable st).0) (new_variable st).1)
    (unify_at depth (put_scope (moved k) sc) at (put (moved k) f)
    (arrow_ty (put (moved k) a) (put (moved k) (new_variable st).0)) (new_variable u).1) _ _
    (unify_at_moved k depth sc at f (arrow_ty a (new_variable st).0) (new_variable st).1 (new_variable u).1
    (new_moved k st u h)) (λ v w i. (refl, i)))

pub joined_moved : (k depth : ℕ) (sc : Scope) (at : At) (t other : Ty) (st u : Progress) → AreMoved k st u
    → Both (ExpsMove k) (joined depth sc at t other st)
    (joined depth (put_scope (moved k) sc) at (put (moved k) t) (put (moved k) other) u)
joined_moved k depth sc at t other st u h =
    both_then (AreMoved k) (ExpsMove k) (unify_at depth sc at t other st)
    (unify_at depth (put_scope (moved k) sc) at (put (moved k) t) (put (moved k) other) u) _ _
    (unify_at_moved k depth sc at t other st u h) (λ v w i. (refl, i))

pub handled_moved : (k depth : ℕ) (sc : Scope) (at : At) (t m : Ty) (st u : Progress) → AreMoved k st u
    → Both (ExpsMove k) (handled depth sc at t m st)
    (handled depth (put_scope (moved k) sc) at (put (moved k) t) (put (moved k) m) u)
handled_moved k depth sc at t m st u h =
    both_then (AreMoved k) (ExpsMove k) (unify_at depth sc at m (arrow_ty exn_ty t) st)
    (unify_at depth (put_scope (moved k) sc) at (put (moved k) m) (arrow_ty exn_ty (put (moved k) t)) u) _ _
    (unify_at_moved k depth sc at m (arrow_ty exn_ty t) st u h) (λ v w i. (refl, i))

pub raised_moved : (k depth : ℕ) (sc : Scope) (at : At) (t : Ty) (st u : Progress) → AreMoved k st u
    → Both (ExpsMove k) (raised depth sc at t st) (raised depth (put_scope (moved k) sc) at (put (moved k) t) u)
raised_moved k depth sc at t st u h =
    both_then (AreMoved k) (ExpsMove k) (unify_at depth sc at t exn_ty st)
    (unify_at depth (put_scope (moved k) sc) at (put (moved k) t) exn_ty u) _ _
    (unify_at_moved k depth sc at t exn_ty st u h) (λ v w i. (new_is_moved k v w i, new_moved k v w i))

mutual
  made_moved : (k : ℕ) (home : List ℕ) (from to : ℕ) (t : Ty)
      → holds_made home from to (put (moved k) t) ≡ holds_made home from to t
  made_moved k home from to (Ty.Var n) = refl
  made_moved k home from to (Ty.Made c ts) = ap (λ z. is_made_between home from to c || z)
      (any_made_moved k home from to ts)

  any_made_moved : (k : ℕ) (home : List ℕ) (from to : ℕ) (ts : Types)
      → any_holds_made home from to (put_all (moved k) ts) ≡ any_holds_made home from to ts
  any_made_moved k home from to Types.Nil = refl
  any_made_moved k home from to (Types.Cons t ts) =
      ap₂ (λ a b. a || b) (made_moved k home from to t) (any_made_moved k home from to ts)

pub let_moved : (k : ℕ) (sc : Scope) (at : At) (from to also until : ℕ) (t : Ty) (st u : Progress) → also ≡ from
    → until ≡ to → AreMoved k st u
    → Both (ExpsMove k) (within_let sc at from to (t, st))
    (within_let (put_scope (moved k) sc) at also until (put (moved k) t, u))
let_moved k sc at from to also until t st u e f h =
    both_where k (ExpsMove k) (holds_made sc.home from to (put st.types.stands t))
    (holds_made sc.home also until (put u.types.stands (put (moved k) t))) 41 sc at _ _
    (ap₂ (λ a b. holds_made sc.home a b (put u.types.stands (put (moved k) t))) e f
    ∙ ap (holds_made sc.home from to) (known_moved k st.types u.types t h.types)
    ∙ made_moved k sc.home from to (put st.types.stands t)) (refl, h)

-- ---- written variables

abbrev pub RowsMove : ℕ → List (List ℕ × ℕ) × Progress → List (List ℕ × ℕ) × Progress → Type 0
RowsMove k = MovesIn k (later_rows k)

either_rows : (k : ℕ) (b c : Bool) (x y z w : List (List ℕ × ℕ) × Progress) → c ≡ b → RowsMove k x z → RowsMove k y w
    → RowsMove k (cond b x y) (cond c z w)
either_rows k true true x y z w e h l = h
either_rows k false false x y z w e h l = l
either_rows k true false x y z w e h l = absurd (cc)
either_rows k false true x y z w e h l = absurd (cc)

pub implicit_moved : (k : ℕ) (outer : List (List ℕ × Ty)) (texts : List (List ℕ)) (before : List (List ℕ × ℕ))
    (st u : Progress)
    → AreMoved k st u
    → RowsMove k (implicit outer texts before st) (implicit (put_rows (moved k) outer) texts (later_rows k before) u)
implicit_moved k outer [] before st u h = (refl, h)
implicit_moved k outer (text ∷ texts) before st u h =
    either_rows k (is_named text before || is_named text outer)
    (is_named text (later_rows k before) || is_named text (put_rows (moved k) outer))
    (implicit outer texts before st) (implicit outer texts (before ++ (text, st.types.next) ∷ []) (new_rigid text st))
    (implicit (put_rows (moved k) outer) texts (later_rows k before) u)
    (implicit (put_rows (moved k) outer) texts (later_rows k before ++ (text, u.types.next) ∷ []) (new_rigid text u))
    (ap₂ (λ a b. a || b) (each_is_named (λ v. v + k) text before) (each_is_named (put (moved k)) text outer))
    (implicit_moved k outer texts before st u h)
    (subst (λ z. RowsMove k (implicit outer texts (before ++ (text, st.types.next) ∷ []) (new_rigid text st))
    (implicit (put_rows (moved k) outer) texts z (new_rigid text u))) (row_after k text before st u h)
    (implicit_moved k outer texts (before ++ (text, st.types.next) ∷ []) (new_rigid text st) (new_rigid text u)
    (rigid_moved k text st u h)))

pub own_moved : (k : ℕ) (sc : Scope) (tyvars : List Name) (rules recs : Rules) (st u : Progress) → AreMoved k st u
    → Both (MovesIn k (later_rows k)) (own_variables sc tyvars rules recs st)
    (own_variables (put_scope (moved k) sc) tyvars rules recs u)
own_moved k sc tyvars rules recs st u h =
    moves_then k (later_rows k) (MovesIn k (later_rows k)) (listed sc tyvars [] st)
    (listed (put_scope (moved k) sc) tyvars [] u) _ _ (listed_moved k sc tyvars [] st u h) (λ rows v w i.
    implicit_moved k sc.written (written_in rules recs) rows v w i)

-- ---- what an environment says of a phrase

names_moved : (k : ℕ) (env : Env) (parts : List (List ℕ))
    → names_variable (put_env (moved k) env) parts ≡ names_variable env parts
names_moved k env [] = refl
names_moved k env (name ∷ []) = ap not (put_con_named (moved k) name env)
names_moved k env (name ∷ next ∷ rest) = refl

pub is_variable_moved : (k : ℕ) (env : Env) (pat : PatPhrase)
    → is_variable (put_env (moved k) env) pat ≡ is_variable env pat
is_variable_moved k env (PatPhrase.Wild at) = refl
is_variable_moved k env (PatPhrase.Int value at) = refl
is_variable_moved k env (PatPhrase.Str value at) = refl
is_variable_moved k env (PatPhrase.Char value at) = refl
is_variable_moved k env (PatPhrase.Long long at) = names_moved k env long.parts
is_variable_moved k env (PatPhrase.Record fields at) = refl
is_variable_moved k env (PatPhrase.Con long arg at) = refl
is_variable_moved k env (PatPhrase.Typed pat ty at) = is_variable_moved k env pat
is_variable_moved k env (PatPhrase.As name ty pat at) = refl

constructs_moved : (k : ℕ) (env : Env) (exp : ExpPhrase)
    → constructs (put_env (moved k) env) exp ≡ constructs env exp
constructs_moved k env (ExpPhrase.Int value at) = refl
constructs_moved k env (ExpPhrase.Str value at) = refl
constructs_moved k env (ExpPhrase.Char value at) = refl
constructs_moved k env (ExpPhrase.Long long at) = ap (λ z. z && not (ends_in_ref long.parts))
    (put_con_found (moved k) long.parts env)
constructs_moved k env (ExpPhrase.Record fields at) = refl
constructs_moved k env (ExpPhrase.Let dec body at) = refl
constructs_moved k env (ExpPhrase.App function argument at) = refl
constructs_moved k env (ExpPhrase.Typed exp ty at) = refl
constructs_moved k env (ExpPhrase.Handle exp rules at) = refl
constructs_moved k env (ExpPhrase.Raise exp at) = refl
constructs_moved k env (ExpPhrase.Fn rules at) = refl

mutual
  pub nonexpansive_moved : (k : ℕ) (env : Env) (exp : ExpPhrase)
      → is_nonexpansive (put_env (moved k) env) exp ≡ is_nonexpansive env exp
  nonexpansive_moved k env (ExpPhrase.Int value at) = refl
  nonexpansive_moved k env (ExpPhrase.Str value at) = refl
  nonexpansive_moved k env (ExpPhrase.Char value at) = refl
  nonexpansive_moved k env (ExpPhrase.Long long at) = refl
  nonexpansive_moved k env (ExpPhrase.Record fields at) = all_nonexpansive_moved k env fields
  nonexpansive_moved k env (ExpPhrase.Let dec body at) = refl
  nonexpansive_moved k env (ExpPhrase.App function argument at) =
      ap₂ (λ a b. a && b) (constructs_moved k env function) (nonexpansive_moved k env argument)
  nonexpansive_moved k env (ExpPhrase.Typed exp ty at) = nonexpansive_moved k env exp
  nonexpansive_moved k env (ExpPhrase.Handle exp rules at) = refl
  nonexpansive_moved k env (ExpPhrase.Raise exp at) = refl
  nonexpansive_moved k env (ExpPhrase.Fn rules at) = refl

  all_nonexpansive_moved : (k : ℕ) (env : Env) (fields : ExpFields)
      → are_nonexpansive (put_env (moved k) env) fields ≡ are_nonexpansive env fields
  all_nonexpansive_moved k env ExpFields.EndOfFields = refl
  all_nonexpansive_moved k env (ExpFields.Field label exp rest) =
      ap₂ (λ a b. a && b) (nonexpansive_moved k env exp) (all_nonexpansive_moved k env rest)

-- ---- bindings

abbrev pub put_group : ℕ → Group → Group
put_group k group = (group.0, put_rows (moved k) group.1)

abbrev pub put_rec : ℕ → Ty × Bound → Ty × Bound
put_rec k row = (put (moved k) row.0, put_rows (moved k) row.1)

pub added_moved : (k : ℕ) (before after : Bound)
    → added (put_rows (moved k) before) (put_rows (moved k) after) ≡ put_rows (moved k) (added before after)
added_moved k before after =
    ap (λ n. drop n (put_rows (moved k) after))
    (length-map before (λ (row : List ℕ × Ty). (row.0, put (moved k) row.1)))
    ∙ map_drop (λ (row : List ℕ × Ty). (row.0, put (moved k) row.1)) (length before) after

pub rec_bound_moved : (k : ℕ) (rows : RecPats) → rec_bound (map (put_rec k) rows) ≡ put_rows (moved k) (rec_bound rows)
rec_bound_moved k [] = refl
rec_bound_moved k (row ∷ rows) = ap (λ z. put_rows (moved k) row.1 ++ z) (rec_bound_moved k rows)
    ∙ sym (map-append (λ (x : List ℕ × Ty). (x.0, put (moved k) x.1)) row.1 (rec_bound rows))

pub rec_groups_moved : (k : ℕ) (env : Env) (rules : Rules) (rows : RecPats)
    → rec_groups (put_env (moved k) env) rules (map (put_rec k) rows) ≡ map (put_group k) (rec_groups env rules rows)
rec_groups_moved k env Rules.EndOfRules rows = refl
rec_groups_moved k env (Rules.Rule pat exp rest) [] = refl
rec_groups_moved k env (Rules.Rule pat exp rest) (row ∷ rows) =
    ap₂ (λ b gs. (b, put_rows (moved k) row.1) ∷ gs) (nonexpansive_moved k env exp) (rec_groups_moved k env rest rows)

abbrev scope_of : List ℕ → List (List ℕ × Ty) → Env → Scope
scope_of home written env = record { env = env; written = written; home = home }

pub under_bound_moved : (k : ℕ) (rows : Bound) (sc : Scope)
    → under_bound (put_rows (moved k) rows) (put_scope (moved k) sc) ≡ put_scope (moved k) (under_bound rows sc)
under_bound_moved k rows sc = ap (scope_of sc.home (put_rows (moved k) sc.written)) (bound_moved k rows sc.env)

pub rec_pats_moved : (k depth : ℕ) (sc : Scope) (rules : Rules) (made : RecPats) (bound : Bound) (st u : Progress)
    → AreMoved k st u
    → Both (MovesIn k (map (put_rec k))) (infer_rec_pats depth sc rules made bound st)
    (infer_rec_pats depth (put_scope (moved k) sc) rules (map (put_rec k) made) (put_rows (moved k) bound) u)
rec_pats_moved k depth sc Rules.EndOfRules made bound st u h = (refl, h)
rec_pats_moved k depth sc (Rules.Rule pat exp rest) made bound st u h =
    both_move_then k (put (moved k)) (put_rows (moved k)) (MovesIn k (map (put_rec k))) (infer_pat depth sc pat bound st)
    (infer_pat depth (put_scope (moved k) sc) pat (put_rows (moved k) bound) u) _ _
    (pat_moved k depth sc pat bound st u h) (λ t c v w i.
    both_where k (MovesIn k (map (put_rec k))) (not (is_variable sc.env pat))
    (not (is_variable (put_env (moved k) sc.env) pat)) 34 sc (pat_at pat) _ _
    (ap not (is_variable_moved k sc.env pat))
    (subst (λ z. Both (MovesIn k (map (put_rec k)))
    (infer_rec_pats depth sc rest (made ++ (t, added bound c) ∷ []) c v)
    (infer_rec_pats depth (put_scope (moved k) sc) rest z (put_rows (moved k) c) w))
    (map-append (put_rec k) made ((t, added bound c) ∷ [])
    ∙ ap (λ z. map (put_rec k) made ++ (put (moved k) t, z) ∷ []) (sym (added_moved k bound c)))
    (rec_pats_moved k depth sc rest (made ++ (t, added bound c) ∷ []) c v w i)))

-- ---- the closing of a `val`

closed_where_moved : (k : ℕ) (closes : Bool) (kept other : ℕ → Bool) (s r : State) (t : Ty) → IsMoved k s r
    → KeepsAlike k kept other
    → closed_where closes other r (put (moved k) t) ≡ put_scheme (moved k) (closed_where closes kept s t)
closed_where_moved k true kept other s r t h l =
    ap (λ x. scheme_over (found_in other x []) r.marks x) (known_moved k s r t h)
    ∙ ap (λ vs. scheme_over vs r.marks (put (moved k) (put s.stands t)))
    (found_moved k kept other (put s.stands t) [] l)
    ∙ scheme_moved k (found_in kept (put s.stands t) []) s.marks r.marks (put s.stands t) h.marks
closed_where_moved k false kept other s r t h l =
    ap (λ x. scheme_over [] r.marks x) (known_moved k s r t h)
    ∙ scheme_moved k [] s.marks r.marks (put s.stands t) h.marks

abbrev value_of : TypeScheme → ValueEntry
value_of σ = record { status = status.Variable; scheme = σ }

closed_variables_moved : (k : ℕ) (closes : Bool) (kept other : ℕ → Bool) (s r : State) (rows : Bound) (env : Env)
    → IsMoved k s r → KeepsAlike k kept other
    → closed_variables closes other r (put_rows (moved k) rows) (put_env (moved k) env)
    ≡ put_env (moved k) (closed_variables closes kept s rows env)
closed_variables_moved k closes kept other s r [] env h l = refl
closed_variables_moved k closes kept other s r (row ∷ rows) env h l =
    ap (λ σ. closed_variables closes other r (put_rows (moved k) rows)
    (with_value row.0 (value_of σ) (put_env (moved k) env))) (closed_where_moved k closes kept other s r row.1 h l)
    ∙ ap (closed_variables closes other r (put_rows (moved k) rows))
    (put_with_value (moved k) row.0 (value_of (closed_where closes kept s row.1)) env)
    ∙ closed_variables_moved k closes kept other s r rows
    (with_value row.0 (value_of (closed_where closes kept s row.1)) env) h l

closed_groups_moved : (k : ℕ) (kept other : ℕ → Bool) (s r : State) (groups : List Group) (env : Env)
    → IsMoved k s r → KeepsAlike k kept other
    → closed_groups other r (map (put_group k) groups) (put_env (moved k) env)
    ≡ put_env (moved k) (closed_groups kept s groups env)
closed_groups_moved k kept other s r [] env h l = refl
closed_groups_moved k kept other s r (group ∷ groups) env h l =
    ap (closed_groups other r (map (put_group k) groups))
    (closed_variables_moved k group.0 kept other s r group.1 env h l)
    ∙ closed_groups_moved k kept other s r groups (closed_variables group.0 kept s group.1 env) h l

left_moved : (k : ℕ) (kept other : ℕ → Bool) (s r : State) (made : Env) (rows : List (List ℕ × ℕ)) → IsMoved k s r
    → KeepsAlike k kept other
    → left_over other r (put_env (moved k) made) (later_rows k rows) ≡ left_over kept s made rows
left_moved k kept other s r made [] h l = refl
left_moved k kept other s r made (row ∷ rows) h l =
    ap₂ (λ b o. cond b (Some row.0) o) (ap₂ (λ a b. a || b) (l row.1) (free_moved k row.1 s r made h))
    (left_moved k kept other s r made rows h l)

none_left_moved : (k : ℕ) (sc : Scope) (at : At) (x y : Env × Progress) (o p : Option (List ℕ)) → p ≡ o
    → DecsMove k x y → Both (DecsMove k) (none_left sc at x o) (none_left (put_scope (moved k) sc) at y p)
none_left_moved k sc at x y o p e h =
    subst (λ z. Both (DecsMove k) (none_left sc at x o) (none_left (put_scope (moved k) sc) at y z)) (sym e)
    (on k sc at x y o h) where
      on : (k : ℕ) (sc : Scope) (at : At) (x y : Env × Progress) (o : Option (List ℕ)) → DecsMove k x y
          → Both (DecsMove k) (none_left sc at x o) (none_left (put_scope (moved k) sc) at y o)
      on k sc at x y None h = h
      on k sc at x y (Some text) h = refl

pub closed_val_moved : (k : ℕ) (sc : Scope) (at : At) (kept other : ℕ → Bool) (own : List (List ℕ × ℕ))
    (groups : List Group) (st u : Progress) → AreMoved k st u → KeepsAlike k kept other
    → Both (DecsMove k) (closed_val sc at kept own groups st)
    (closed_val (put_scope (moved k) sc) at other (later_rows k own) (map (put_group k) groups) u)
closed_val_moved k sc at kept other own groups st u h l =
    none_left_moved k sc at (closed_groups kept st.types groups empty_env, st)
    (closed_groups other u.types (map (put_group k) groups) empty_env, u)
    (left_over kept st.types (closed_groups kept st.types groups empty_env) own)
    (left_over other u.types (closed_groups other u.types (map (put_group k) groups) empty_env) (later_rows k own))
    (ap (λ made. left_over other u.types made (later_rows k own))
    (closed_groups_moved k kept other st.types u.types groups empty_env h.types l)
    ∙ left_moved k kept other st.types u.types (closed_groups kept st.types groups empty_env) own h.types l)
    (closed_groups_moved k kept other st.types u.types groups empty_env h.types l, h)

pub keeps_alike : (k : ℕ) (sc : Scope) (st u : Progress) → AreMoved k st u
    → KeepsAlike k (is_kept sc st.types.stands) (is_kept (put_scope (moved k) sc) u.types.stands)
keeps_alike k sc st u h = λ v. kept_moved k v sc st.types u.types h.types
