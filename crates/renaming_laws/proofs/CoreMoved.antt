-- Expressions, matches and declarations move with the variables.
use Rattle.std.proofs.Common.{◌≡◌, ℕ, List, [], ◌∷◌, ◌++◌, map, refl, sym, ap, ap₂, ◌∙◌, subst}
use Rattle.std.proofs.lemmas.List.{map-append}
use Rattle.std.specs.Option.{is_some}
use Rattle.sml_trees.specs.declared.name.At.{At}
use Rattle.semantic_objects.specs.Tables.{Table, entry, with_entry}
use Rattle.semantic_objects.specs.Environments.{Env, empty_env}
use Rattle.unification.specs.Types.{Ty, put}
use Rattle.bare_phrases.specs.Phrases.{ExpPhrase, ExpFields, Rules, DecPhrase, DecPhrases}
use Rattle.static_semantics.specs.BasicTypes.{int_ty, string_ty, char_ty, arrow_ty, record_ty, reserved_constructors}
use Rattle.static_semantics.specs.Inferring.{Progress, Scope, under, with_written, Answer, ◌>>=◌, name_at, unify_at, new_variable, Bound, under_bound, is_kept, sized_exp, sized_dec}
use Rattle.static_semantics.specs.Nonexpansive.{is_nonexpansive}
use Rattle.static_semantics.specs.TypeInference.{infer_ty, as_written, infer_types}
use Rattle.static_semantics.specs.PatternInference.{pat_at, infer_pat}
use Rattle.static_semantics.specs.DatatypeInference.{datatypes_of, infer_replication, exceptions_of}
use Rattle.static_semantics.specs.CoreInference.{exp_at, known_exp, applied, joined, handled, raised, within_let, own_variables, Group, added, RecPats, infer_rec_pats, rec_bound, rec_groups, closed_val, infer_open, infer_exp, infer_exp_fields, infer_match, infer_rules, infer_binds, infer_rec_exps, infer_dec, infer_decs}
use Rattle.static_semantics.specs.EnvironmentsPut.{each_entry, put_env, put_rows, put_scope}
use Rattle.renaming_laws.specs.Moved.{moved, AreMoved, Both, MovesIn, MovesBoth}
use Rattle.renaming_laws.proofs.Unifying.{unify_at_moved}
use Rattle.renaming_laws.proofs.Answers.{both_then, plain_then, moves_then, both_move_then, both_where}
use Rattle.renaming_laws.proofs.Environments.{each_with, each_has, put_modified}
use Rattle.renaming_laws.proofs.Closing.{new_moved, new_is_moved}
use Rattle.renaming_laws.proofs.TypesMoved.{record_moved, ty_moved, later_rows, with_written_moved, under_moved, infer_types_moved, datatypes_moved, replication_moved, exceptions_moved, open_moved}
use Rattle.renaming_laws.proofs.PatternsMoved.{pat_moved}
use Rattle.renaming_laws.proofs.StepsMoved.{ExpsMove, DecsMove, exp_sized, dec_sized, known_exp_moved, applied_moved, joined_moved, handled_moved, raised_moved, let_moved, own_moved, nonexpansive_moved, put_group, put_rec, added_moved, rec_bound_moved, rec_groups_moved, under_bound_moved, rec_pats_moved, closed_val_moved, keeps_alike}

abbrev FieldsMove : ℕ → Table Ty × Progress → Table Ty × Progress → Type 0
FieldsMove k = MovesIn k (each_entry (put (moved k)))

abbrev BindsMove : ℕ → Bound × List Group × Progress → Bound × List Group × Progress → Type 0
BindsMove k = MovesBoth k (put_rows (moved k)) (map (put_group k))

-- a `val` after its written variables
abbrev after_own : ℕ → Scope → At → Scope → List (List ℕ × ℕ) → Rules → Rules → Progress → Answer (Env × Progress)
after_own depth sc at inner own rules recs st =
    infer_binds depth inner rules [] [] st
    >>= λ b. infer_rec_pats depth inner recs [] b.0 b.2
    >>= λ p. infer_rec_exps depth (under_bound (rec_bound p.0) inner) recs p.0 p.1
    >>= λ u. closed_val sc at (is_kept sc u.types.stands) own (b.1 ++ rec_groups sc.env recs p.0) u
    >>= λ r. sized_dec sc at r

-- the type of a match without rules
no_rules_moved : (k : ℕ) (st u : Progress) → AreMoved k st u
    → arrow_ty (new_variable u).0 (new_variable (new_variable u).1).0
    ≡ put (moved k) (arrow_ty (new_variable st).0 (new_variable (new_variable st).1).0)
no_rules_moved k st u h = ap₂ arrow_ty (new_is_moved k st u h)
    (new_is_moved k (new_variable st).1 (new_variable u).1 (new_moved k st u h))

mutual
  pub exp_moved : (k depth : ℕ) (sc : Scope) (exp : ExpPhrase) (st u : Progress) → AreMoved k st u
      → Both (ExpsMove k) (infer_exp depth sc exp st) (infer_exp depth (put_scope (moved k) sc) exp u)
  exp_moved k depth sc (ExpPhrase.Int value at) st u h = exp_sized k sc at int_ty st u h
  exp_moved k depth sc (ExpPhrase.Str value at) st u h = exp_sized k sc at string_ty st u h
  exp_moved k depth sc (ExpPhrase.Char value at) st u h = exp_sized k sc at char_ty st u h
  exp_moved k depth sc (ExpPhrase.Long long at) st u h =
      moves_then k (put (moved k)) (ExpsMove k) (known_exp sc long st) (known_exp (put_scope (moved k) sc) long u) _ _
      (known_exp_moved k sc long st u h) (λ t v w i. exp_sized k sc at t v w i)
  exp_moved k depth sc (ExpPhrase.Record fields at) st u h =
      moves_then k (each_entry (put (moved k))) (ExpsMove k) (infer_exp_fields depth sc fields [] st)
      (infer_exp_fields depth (put_scope (moved k) sc) fields [] u) _ _
      (exp_fields_moved k depth sc fields [] st u h) (λ rows v w i.
      subst (λ z. Both (ExpsMove k) (sized_exp sc at (record_ty rows, v))
      (sized_exp (put_scope (moved k) sc) at (z, w))) (sym (record_moved k rows))
      (exp_sized k sc at (record_ty rows) v w i))
  exp_moved k depth sc (ExpPhrase.Let dec body at) st u h =
      moves_then k (put_env (moved k)) (ExpsMove k) (infer_dec depth sc dec st)
      (infer_dec depth (put_scope (moved k) sc) dec u) _ _ (dec_moved k depth sc dec st u h) (λ env v w i.
      moves_then k (put (moved k)) (ExpsMove k) (infer_exp depth (under env sc) body v)
      (infer_exp depth (under (put_env (moved k) env) (put_scope (moved k) sc)) body w) _ _
      (subst (λ z. Both (ExpsMove k) (infer_exp depth (under env sc) body v) (infer_exp depth z body w))
      (sym (under_moved k env sc)) (exp_moved k depth (under env sc) body v w i)) (λ t x y j.
      moves_then k (put (moved k)) (ExpsMove k) (within_let sc at st.names v.names (t, x))
      (within_let (put_scope (moved k) sc) at u.names w.names (put (moved k) t, y)) _ _
      (let_moved k sc at st.names v.names u.names w.names t x y h.names i.names j)
      (λ q a b l. exp_sized k sc at q a b l)))
  exp_moved k depth sc (ExpPhrase.App function argument at) st u h =
      moves_then k (put (moved k)) (ExpsMove k) (infer_exp depth sc function st)
      (infer_exp depth (put_scope (moved k) sc) function u) _ _ (exp_moved k depth sc function st u h) (λ f v w i.
      moves_then k (put (moved k)) (ExpsMove k) (infer_exp depth sc argument v)
      (infer_exp depth (put_scope (moved k) sc) argument w) _ _ (exp_moved k depth sc argument v w i) (λ a x y j.
      moves_then k (put (moved k)) (ExpsMove k) (applied depth sc at f a x)
      (applied depth (put_scope (moved k) sc) at (put (moved k) f) (put (moved k) a) y) _ _
      (applied_moved k depth sc at f a x y j) (λ t p q l. exp_sized k sc at t p q l)))
  exp_moved k depth sc (ExpPhrase.Typed exp ty at) st u h =
      moves_then k (put (moved k)) (ExpsMove k) (infer_exp depth sc exp st)
      (infer_exp depth (put_scope (moved k) sc) exp u) _ _ (exp_moved k depth sc exp st u h) (λ e v w i.
      plain_then (put (moved k)) (ExpsMove k) (infer_ty sc ty) (infer_ty (put_scope (moved k) sc) ty) _ _
      (ty_moved k sc ty) (λ t.
      moves_then k (put (moved k)) (ExpsMove k) (joined depth sc at e t v)
      (joined depth (put_scope (moved k) sc) at (put (moved k) e) (put (moved k) t) w) _ _
      (joined_moved k depth sc at e t v w i) (λ q x y j. exp_sized k sc at q x y j)))
  exp_moved k depth sc (ExpPhrase.Handle exp rules at) st u h =
      moves_then k (put (moved k)) (ExpsMove k) (infer_exp depth sc exp st)
      (infer_exp depth (put_scope (moved k) sc) exp u) _ _ (exp_moved k depth sc exp st u h) (λ e v w i.
      moves_then k (put (moved k)) (ExpsMove k) (infer_match depth sc rules v)
      (infer_match depth (put_scope (moved k) sc) rules w) _ _ (match_moved k depth sc rules v w i) (λ m x y j.
      moves_then k (put (moved k)) (ExpsMove k) (handled depth sc at e m x)
      (handled depth (put_scope (moved k) sc) at (put (moved k) e) (put (moved k) m) y) _ _
      (handled_moved k depth sc at e m x y j) (λ q a b l. exp_sized k sc at q a b l)))
  exp_moved k depth sc (ExpPhrase.Raise exp at) st u h =
      moves_then k (put (moved k)) (ExpsMove k) (infer_exp depth sc exp st)
      (infer_exp depth (put_scope (moved k) sc) exp u) _ _ (exp_moved k depth sc exp st u h) (λ e v w i.
      moves_then k (put (moved k)) (ExpsMove k) (raised depth sc at e v)
      (raised depth (put_scope (moved k) sc) at (put (moved k) e) w) _ _ (raised_moved k depth sc at e v w i)
      (λ q x y j. exp_sized k sc at q x y j))
  exp_moved k depth sc (ExpPhrase.Fn rules at) st u h =
      moves_then k (put (moved k)) (ExpsMove k) (infer_match depth sc rules st)
      (infer_match depth (put_scope (moved k) sc) rules u) _ _ (match_moved k depth sc rules st u h)
      (λ t v w i. exp_sized k sc at t v w i)

  pub exp_fields_moved : (k depth : ℕ) (sc : Scope) (fields : ExpFields) (made : Table Ty) (st u : Progress)
      → AreMoved k st u
      → Both (FieldsMove k) (infer_exp_fields depth sc fields made st)
      (infer_exp_fields depth (put_scope (moved k) sc) fields (each_entry (put (moved k)) made) u)
  exp_fields_moved k depth sc ExpFields.EndOfFields made st u h = (refl, h)
  exp_fields_moved k depth sc (ExpFields.Field label exp rest) made st u h =
      both_where k (FieldsMove k) (is_some (entry label.text made))
      (is_some (entry label.text (each_entry (put (moved k)) made))) 40 sc (name_at label) _ _
      (each_has (put (moved k)) label.text made)
      (moves_then k (put (moved k)) (FieldsMove k) (infer_exp depth sc exp st)
      (infer_exp depth (put_scope (moved k) sc) exp u) _ _ (exp_moved k depth sc exp st u h) (λ t v w i.
      subst (λ z. Both (FieldsMove k) (infer_exp_fields depth sc rest (with_entry label.text t made) v)
      (infer_exp_fields depth (put_scope (moved k) sc) rest z w)) (sym (each_with (put (moved k)) label.text t made))
      (exp_fields_moved k depth sc rest (with_entry label.text t made) v w i)))

  pub match_moved : (k depth : ℕ) (sc : Scope) (rules : Rules) (st u : Progress) → AreMoved k st u
      → Both (ExpsMove k) (infer_match depth sc rules st) (infer_match depth (put_scope (moved k) sc) rules u)
  match_moved k depth sc Rules.EndOfRules st u h =
      (no_rules_moved k st u h, new_moved k (new_variable st).1 (new_variable u).1 (new_moved k st u h))
  match_moved k depth sc (Rules.Rule pat exp rest) st u h =
      both_move_then k (put (moved k)) (put_rows (moved k)) (ExpsMove k) (infer_pat depth sc pat [] st)
      (infer_pat depth (put_scope (moved k) sc) pat [] u) _ _ (pat_moved k depth sc pat [] st u h) (λ p c v w i.
      moves_then k (put (moved k)) (ExpsMove k) (infer_exp depth (under_bound c sc) exp v)
      (infer_exp depth (under_bound (put_rows (moved k) c) (put_scope (moved k) sc)) exp w) _ _
      (subst (λ z. Both (ExpsMove k) (infer_exp depth (under_bound c sc) exp v) (infer_exp depth z exp w))
      (sym (under_bound_moved k c sc)) (exp_moved k depth (under_bound c sc) exp v w i)) (λ e x y j.
      both_then (AreMoved k) (ExpsMove k) (infer_rules depth sc p e rest x)
      (infer_rules depth (put_scope (moved k) sc) (put (moved k) p) (put (moved k) e) rest y) _ _
      (rules_moved k depth sc p e rest x y j) (λ a b l. (refl, l))))

  pub rules_moved : (k depth : ℕ) (sc : Scope) (from to : Ty) (rules : Rules) (st u : Progress) → AreMoved k st u
      → Both (AreMoved k) (infer_rules depth sc from to rules st)
      (infer_rules depth (put_scope (moved k) sc) (put (moved k) from) (put (moved k) to) rules u)
  rules_moved k depth sc from to Rules.EndOfRules st u h = h
  rules_moved k depth sc from to (Rules.Rule pat exp rest) st u h =
      both_move_then k (put (moved k)) (put_rows (moved k)) (AreMoved k) (infer_pat depth sc pat [] st)
      (infer_pat depth (put_scope (moved k) sc) pat [] u) _ _ (pat_moved k depth sc pat [] st u h) (λ p c v w i.
      both_then (AreMoved k) (AreMoved k) (unify_at depth sc (pat_at pat) p from v)
      (unify_at depth (put_scope (moved k) sc) (pat_at pat) (put (moved k) p) (put (moved k) from) w) _ _
      (unify_at_moved k depth sc (pat_at pat) p from v w i) (λ v2 w2 i2.
      moves_then k (put (moved k)) (AreMoved k) (infer_exp depth (under_bound c sc) exp v2)
      (infer_exp depth (under_bound (put_rows (moved k) c) (put_scope (moved k) sc)) exp w2) _ _
      (subst (λ z. Both (ExpsMove k) (infer_exp depth (under_bound c sc) exp v2) (infer_exp depth z exp w2))
      (sym (under_bound_moved k c sc)) (exp_moved k depth (under_bound c sc) exp v2 w2 i2)) (λ e x y j.
      both_then (AreMoved k) (AreMoved k) (unify_at depth sc (exp_at exp) e to x)
      (unify_at depth (put_scope (moved k) sc) (exp_at exp) (put (moved k) e) (put (moved k) to) y) _ _
      (unify_at_moved k depth sc (exp_at exp) e to x y j) (λ a b l. rules_moved k depth sc from to rest a b l))))

  pub binds_moved : (k depth : ℕ) (sc : Scope) (rules : Rules) (bound : Bound) (groups : List Group)
      (st u : Progress) → AreMoved k st u
      → Both (BindsMove k) (infer_binds depth sc rules bound groups st)
      (infer_binds depth (put_scope (moved k) sc) rules (put_rows (moved k) bound) (map (put_group k) groups) u)
  binds_moved k depth sc Rules.EndOfRules bound groups st u h = (refl, refl, h)
  binds_moved k depth sc (Rules.Rule pat exp rest) bound groups st u h =
      both_move_then k (put (moved k)) (put_rows (moved k)) (BindsMove k) (infer_pat depth sc pat bound st)
      (infer_pat depth (put_scope (moved k) sc) pat (put_rows (moved k) bound) u) _ _
      (pat_moved k depth sc pat bound st u h) (λ p c v w i.
      moves_then k (put (moved k)) (BindsMove k) (infer_exp depth sc exp v)
      (infer_exp depth (put_scope (moved k) sc) exp w) _ _ (exp_moved k depth sc exp v w i) (λ e x y j.
      both_then (AreMoved k) (BindsMove k) (unify_at depth sc (pat_at pat) p e x)
      (unify_at depth (put_scope (moved k) sc) (pat_at pat) (put (moved k) p) (put (moved k) e) y) _ _
      (unify_at_moved k depth sc (pat_at pat) p e x y j) (λ a b l.
      let group : Group = (is_nonexpansive sc.env exp, added bound c) in
      subst (λ z. Both (BindsMove k) (infer_binds depth sc rest c (groups ++ group ∷ []) a)
      (infer_binds depth (put_scope (moved k) sc) rest (put_rows (moved k) c) z b))
      (map-append (put_group k) groups (group ∷ [])
      ∙ ap₂ (λ n rows. map (put_group k) groups ++ (n, rows) ∷ []) (sym (nonexpansive_moved k sc.env exp))
      (sym (added_moved k bound c)))
      (binds_moved k depth sc rest c (groups ++ group ∷ []) a b l))))

  pub rec_exps_moved : (k depth : ℕ) (sc : Scope) (rules : Rules) (rows : RecPats) (st u : Progress) → AreMoved k st u
      → Both (AreMoved k) (infer_rec_exps depth sc rules rows st)
      (infer_rec_exps depth (put_scope (moved k) sc) rules (map (put_rec k) rows) u)
  rec_exps_moved k depth sc Rules.EndOfRules rows st u h = h
  rec_exps_moved k depth sc (Rules.Rule pat exp rest) [] st u h = tt
  rec_exps_moved k depth sc (Rules.Rule pat exp rest) (row ∷ rows) st u h =
      moves_then k (put (moved k)) (AreMoved k) (infer_exp depth sc exp st)
      (infer_exp depth (put_scope (moved k) sc) exp u) _ _ (exp_moved k depth sc exp st u h) (λ e v w i.
      both_then (AreMoved k) (AreMoved k) (unify_at depth sc (pat_at pat) row.0 e v)
      (unify_at depth (put_scope (moved k) sc) (pat_at pat) (put (moved k) row.0) (put (moved k) e) w) _ _
      (unify_at_moved k depth sc (pat_at pat) row.0 e v w i) (λ a b l.
      rec_exps_moved k depth sc rest rows a b l))

  pub dec_moved : (k depth : ℕ) (sc : Scope) (dec : DecPhrase) (st u : Progress) → AreMoved k st u
      → Both (DecsMove k) (infer_dec depth sc dec st) (infer_dec depth (put_scope (moved k) sc) dec u)
  dec_moved k depth sc (DecPhrase.Val tyvars rules recs at) st u h =
      moves_then k (later_rows k) (DecsMove k) (own_variables sc tyvars rules recs st)
      (own_variables (put_scope (moved k) sc) tyvars rules recs u) _ _ (own_moved k sc tyvars rules recs st u h)
      (λ own v w i.
      let inner : Scope = with_written (as_written own) sc in
      subst (λ z. Both (DecsMove k) (after_own depth sc at inner own rules recs v)
      (after_own depth (put_scope (moved k) sc) at z (later_rows k own) rules recs w))
      (sym (with_written_moved k own sc))
      (both_move_then k (put_rows (moved k)) (map (put_group k)) (DecsMove k) (infer_binds depth inner rules [] [] v)
      (infer_binds depth (put_scope (moved k) inner) rules [] [] w) _ _
      (binds_moved k depth inner rules [] [] v w i) (λ bound groups v2 w2 i2.
      moves_then k (map (put_rec k)) (DecsMove k) (infer_rec_pats depth inner recs [] bound v2)
      (infer_rec_pats depth (put_scope (moved k) inner) recs [] (put_rows (moved k) bound) w2) _ _
      (rec_pats_moved k depth inner recs [] bound v2 w2 i2) (λ rows v3 w3 i3.
      let whole : Scope = under_bound (rec_bound rows) inner in
      both_then (AreMoved k) (DecsMove k) (infer_rec_exps depth whole recs rows v3)
      (infer_rec_exps depth (under_bound (rec_bound (map (put_rec k) rows)) (put_scope (moved k) inner)) recs
      (map (put_rec k) rows) w3) _ _
      (subst (λ z. Both (AreMoved k) (infer_rec_exps depth whole recs rows v3)
      (infer_rec_exps depth z recs (map (put_rec k) rows) w3))
      (sym (ap (λ c. under_bound c (put_scope (moved k) inner)) (rec_bound_moved k rows)
      ∙ under_bound_moved k (rec_bound rows) inner))
      (rec_exps_moved k depth whole recs rows v3 w3 i3)) (λ v4 w4 i4.
      let all : List Group = groups ++ rec_groups sc.env recs rows in
      moves_then k (put_env (moved k)) (DecsMove k) (closed_val sc at (is_kept sc v4.types.stands) own all v4)
      (closed_val (put_scope (moved k) sc) at (is_kept (put_scope (moved k) sc) w4.types.stands) (later_rows k own)
      (map (put_group k) groups ++ rec_groups (put_env (moved k) sc.env) recs (map (put_rec k) rows)) w4) _ _
      (subst (λ z. Both (DecsMove k) (closed_val sc at (is_kept sc v4.types.stands) own all v4)
      (closed_val (put_scope (moved k) sc) at (is_kept (put_scope (moved k) sc) w4.types.stands) (later_rows k own) z w4))
      (map-append (put_group k) groups (rec_groups sc.env recs rows)
      ∙ ap (λ gs. map (put_group k) groups ++ gs) (sym (rec_groups_moved k sc.env recs rows)))
      (closed_val_moved k sc at (is_kept sc v4.types.stands) (is_kept (put_scope (moved k) sc) w4.types.stands) own all
      v4
      w4 i4 (keeps_alike k sc v4 w4 i4))) (λ env a b l. dec_sized k sc at env a b l))))))
  dec_moved k depth sc (DecPhrase.Types binds at) st u h =
      moves_then k (put_env (moved k)) (DecsMove k) (infer_types sc binds empty_env st)
      (infer_types (put_scope (moved k) sc) binds empty_env u) _ _ (infer_types_moved k sc binds empty_env st u h)
      (λ env v w i. dec_sized k sc at env v w i)
  dec_moved k depth sc (DecPhrase.Datatypes binds at) st u h =
      moves_then k (put_env (moved k)) (DecsMove k) (datatypes_of sc reserved_constructors binds st)
      (datatypes_of (put_scope (moved k) sc) reserved_constructors binds u) _ _
      (datatypes_moved k sc reserved_constructors binds st u h) (λ env v w i. dec_sized k sc at env v w i)
  dec_moved k depth sc (DecPhrase.Replication name long at) st u h =
      plain_then (put_env (moved k)) (DecsMove k) (infer_replication sc name long)
      (infer_replication (put_scope (moved k) sc) name long) _ _ (replication_moved k sc name long)
      (λ env. dec_sized k sc at env st u h)
  dec_moved k depth sc (DecPhrase.Exceptions binds at) st u h =
      plain_then (put_env (moved k)) (DecsMove k) (exceptions_of sc binds)
      (exceptions_of (put_scope (moved k) sc) binds) _ _ (exceptions_moved k sc binds)
      (λ env. dec_sized k sc at env st u h)
  dec_moved k depth sc (DecPhrase.Local hidden shown at) st u h =
      moves_then k (put_env (moved k)) (DecsMove k) (infer_dec depth sc hidden st)
      (infer_dec depth (put_scope (moved k) sc) hidden u) _ _ (dec_moved k depth sc hidden st u h) (λ env v w i.
      moves_then k (put_env (moved k)) (DecsMove k) (infer_dec depth (under env sc) shown v)
      (infer_dec depth (under (put_env (moved k) env) (put_scope (moved k) sc)) shown w) _ _
      (subst (λ z. Both (DecsMove k) (infer_dec depth (under env sc) shown v) (infer_dec depth z shown w))
      (sym (under_moved k env sc)) (dec_moved k depth (under env sc) shown v w i))
      (λ e x y j. dec_sized k sc at e x y j))
  dec_moved k depth sc (DecPhrase.Open longs at) st u h =
      plain_then (put_env (moved k)) (DecsMove k) (infer_open sc longs empty_env)
      (infer_open (put_scope (moved k) sc) longs empty_env) _ _ (open_moved k sc longs empty_env)
      (λ env. dec_sized k sc at env st u h)
  dec_moved k depth sc (DecPhrase.Sequence decs at) st u h = decs_moved k depth sc decs st u h
  dec_moved k depth sc (DecPhrase.Structures binds at) st u h = tt

  pub decs_moved : (k depth : ℕ) (sc : Scope) (decs : DecPhrases) (st u : Progress) → AreMoved k st u
      → Both (DecsMove k) (infer_decs depth sc decs st) (infer_decs depth (put_scope (moved k) sc) decs u)
  decs_moved k depth sc DecPhrases.EndOfDecs st u h = (refl, h)
  decs_moved k depth sc (DecPhrases.Dec dec rest) st u h =
      moves_then k (put_env (moved k)) (DecsMove k) (infer_dec depth sc dec st)
      (infer_dec depth (put_scope (moved k) sc) dec u) _ _ (dec_moved k depth sc dec st u h) (λ env v w i.
      moves_then k (put_env (moved k)) (DecsMove k) (infer_decs depth (under env sc) rest v)
      (infer_decs depth (under (put_env (moved k) env) (put_scope (moved k) sc)) rest w) _ _
      (subst (λ z. Both (DecsMove k) (infer_decs depth (under env sc) rest v) (infer_decs depth z rest w))
      (sym (under_moved k env sc)) (decs_moved k depth (under env sc) rest v w i))
      (λ e x y j. (put_modified (moved k) env e, j)))
