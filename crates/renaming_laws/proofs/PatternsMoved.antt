-- Patterns move with the variables.
use Rattle.std.proofs.Common.{◌≡◌, ℕ, List, [], ◌∷◌, ◌++◌, refl, sym, ap, ◌∙◌, subst, Option, Some, None, Bool, true, false, not}
use Rattle.std.proofs.lemmas.List.{map-append}
use Rattle.std.specs.Option.{is_some}
use Rattle.sml_trees.specs.declared.name.At.{At}
use Rattle.sml_trees.specs.declared.name.LongName.{LongName}
use Rattle.semantic_objects.specs.declared.symbol.Symbol.TheVariants as symbol
use Rattle.semantic_objects.specs.declared.entry.ValueEntry.{ValueEntry}
use Rattle.semantic_objects.specs.Tables.{Table, entry, with_entry}
use Rattle.semantic_objects.specs.Trees.{Tree}
use Rattle.semantic_objects.specs.Environments.{values}
use Rattle.unification.specs.Types.{Ty, Types, put, put_all}
use Rattle.unification.specs.Closing.{put_tree}
use Rattle.bare_phrases.specs.Phrases.{TyPhrase, PatPhrase, PatFields}
use Rattle.static_semantics.specs.BasicTypes.{int_ty, string_ty, char_ty, record_ty, two_parts, arrow_parts, reserved_names, is_one_of}
use Rattle.static_semantics.specs.Inferring.{Progress, Scope, name_at, known, unify_at, found_at, is_named, is_con, stands_for_con, new_variable, new_instance, Bound, is_too_large, sized_pat}
use Rattle.static_semantics.specs.TypeInference.{infer_ty}
use Rattle.static_semantics.specs.PatternInference.{bind_variable, takes_none, arrow_in, with_argument, lone_con, applied_con, known_pat, name_by, name_pat, typed_variable, infer_pat, infer_pat_fields}
use Rattle.static_semantics.specs.EnvironmentsPut.{put_value, each_entry, put_env, put_rows, put_scope}
use Rattle.renaming_laws.specs.Moved.{moved, AreMoved, Both, Moves, MovesBoth}
use Rattle.renaming_laws.proofs.Unifying.{known_moved, large_moved, unify_at_moved}
use Rattle.renaming_laws.proofs.Answers.{both_then, plain_then, both_move_then, both_where, mapped}
use Rattle.renaming_laws.proofs.Environments.{each_with, each_has, each_is_named, put_con_named}
use Rattle.renaming_laws.proofs.Closing.{new_moved, new_is_moved, instance_moved, instance_is_moved}
use Rattle.renaming_laws.proofs.TypesMoved.{record_moved, ty_moved, value_found_moved}

abbrev pub PatsMove : ℕ → Ty × Bound × Progress → Ty × Bound × Progress → Type 0
PatsMove k = MovesBoth k (put (moved k)) (put_rows (moved k))

abbrev FieldsMove : ℕ → Table Ty × Bound × Progress → Table Ty × Bound × Progress → Type 0
FieldsMove k = MovesBoth k (each_entry (put (moved k))) (put_rows (moved k))

pub size_known : (k : ℕ) (t : Ty) (st u : Progress) → AreMoved k st u
    → is_too_large (put u.types.stands (put (moved k) t)) ≡ is_too_large (put st.types.stands t)
size_known k t st u h = ap is_too_large (known_moved k st.types u.types t h.types)
    ∙ large_moved k (put st.types.stands t)

pat_sized : (k : ℕ) (sc : Scope) (at : At) (t : Ty) (c : Bound) (st u : Progress) → AreMoved k st u
    → Both (PatsMove k) (sized_pat sc at (t, c, st))
    (sized_pat (put_scope (moved k) sc) at (put (moved k) t, put_rows (moved k) c, u))
pat_sized k sc at t c st u h =
    both_where k (PatsMove k) (is_too_large (put st.types.stands t))
    (is_too_large (put u.types.stands (put (moved k) t))) 38 sc at _ _ (size_known k t st u h) (refl, refl, h)

rows_after : (k : ℕ) (name : List ℕ) (bound : Bound) (st u : Progress) → AreMoved k st u
    → put_rows (moved k) bound ++ (name, (new_variable u).0) ∷ []
    ≡ put_rows (moved k) (bound ++ (name, (new_variable st).0) ∷ [])
rows_after k name bound st u h =
    ap (λ t. put_rows (moved k) bound ++ (name, t) ∷ []) (new_is_moved k st u h)
    ∙ sym (map-append (λ (row : List ℕ × Ty). (row.0, put (moved k) row.1)) bound ((name, (new_variable st).0) ∷ []))

bind_moved : (k : ℕ) (sc : Scope) (at : At) (name : List ℕ) (bound : Bound) (st u : Progress) → AreMoved k st u
    → Both (PatsMove k) (bind_variable sc at name bound st)
    (bind_variable (put_scope (moved k) sc) at name (put_rows (moved k) bound) u)
bind_moved k sc at name bound st u h =
    both_where k (PatsMove k) (is_one_of reserved_names name) (is_one_of reserved_names name) 34 sc at _ _ refl
    (both_where k (PatsMove k) (is_named name bound) (is_named name (put_rows (moved k) bound)) 40 sc at _ _
    (each_is_named (put (moved k)) name bound)
    (new_is_moved k st u h, rows_after k name bound st u h, new_moved k st u h))

none_moved : (k : ℕ) (x : Tree) → takes_none (put_tree (moved k) x) ≡ takes_none x
none_moved k (Tree.Bound i) = refl
none_moved k (Tree.Free n) = refl
none_moved k (Tree.Made c ts) = refl

lone_moved : (k : ℕ) (sc : Scope) (at : At) (bound : Bound) (v : ValueEntry) (st u : Progress) → AreMoved k st u
    → Both (PatsMove k) (lone_con sc at bound v st)
    (lone_con (put_scope (moved k) sc) at (put_rows (moved k) bound) (put_value (moved k) v) u)
lone_moved k sc at bound v st u h =
    both_where k (PatsMove k) (not (is_con v.status)) (not (is_con v.status)) 34 sc at _ _ refl
    (both_where k (PatsMove k) (not (takes_none v.scheme.body))
    (not (takes_none (put_tree (moved k) v.scheme.body))) 34 sc at _ _ (ap not (none_moved k v.scheme.body))
    (instance_is_moved k v.scheme st u h, refl, instance_moved k v.scheme st u h))

abbrev put_sides : ℕ → Ty × Ty → Ty × Ty
put_sides k s = (put (moved k) s.0, put (moved k) s.1)

two_moved : (k : ℕ) (ts : Types) → two_parts (put_all (moved k) ts) ≡ mapped (put_sides k) (two_parts ts)
two_moved k Types.Nil = refl
two_moved k (Types.Cons a Types.Nil) = refl
two_moved k (Types.Cons a (Types.Cons b Types.Nil)) = refl
two_moved k (Types.Cons a (Types.Cons b (Types.Cons c ts))) = refl

sides_moved : (k : ℕ) (t : Ty) → arrow_parts (put (moved k) t) ≡ mapped (put_sides k) (arrow_parts t)
sides_moved k (Ty.Var n) = refl
sides_moved k (Ty.Made symbol.Arrow ts) = two_moved k ts
sides_moved k (Ty.Made (symbol.Record labels) ts) = refl
sides_moved k (Ty.Made (symbol.Name name) ts) = refl

arrow_moved : (k : ℕ) (x : Tree) (t : Ty)
    → arrow_in (put_tree (moved k) x) (put (moved k) t) ≡ mapped (put_sides k) (arrow_in x t)
arrow_moved k (Tree.Bound i) t = refl
arrow_moved k (Tree.Free n) t = refl
arrow_moved k (Tree.Made c ts) t = sides_moved k t

argument_moved : (k : ℕ) (sc : Scope) (at : At) (o p : Option (Ty × Ty)) → p ≡ mapped (put_sides k) o
    → Both (Moves (put_sides k)) (with_argument sc at o) (with_argument (put_scope (moved k) sc) at p)
argument_moved k sc at o p e =
    subst (λ z. Both (Moves (put_sides k)) (with_argument sc at o) (with_argument (put_scope (moved k) sc) at z)) (sym e)
    (on k sc at o) where
      on : (k : ℕ) (sc : Scope) (at : At) (o : Option (Ty × Ty))
          → Both (Moves (put_sides k)) (with_argument sc at o)
          (with_argument (put_scope (moved k) sc) at (mapped (put_sides k) o))
      on k sc at None = refl
      on k sc at (Some x) = refl

applied_moved : (k depth : ℕ) (sc : Scope) (at : At) (v : ValueEntry) (a : Ty) (c : Bound) (st u : Progress)
    → AreMoved k st u
    → Both (PatsMove k) (applied_con depth sc at v (a, c, st))
    (applied_con depth (put_scope (moved k) sc) at (put_value (moved k) v) (put (moved k) a, put_rows (moved k) c, u))
applied_moved k depth sc at v a c st u h =
    both_where k (PatsMove k) (not (is_con v.status)) (not (is_con v.status)) 34 sc at _ _ refl
    (plain_then (put_sides k) (PatsMove k)
    (with_argument sc at (arrow_in v.scheme.body (new_instance v.scheme st).0))
    (with_argument (put_scope (moved k) sc) at
    (arrow_in (put_tree (moved k) v.scheme.body) (new_instance (put_value (moved k) v).scheme u).0)) _ _
    (argument_moved k sc at (arrow_in v.scheme.body (new_instance v.scheme st).0)
    (arrow_in (put_tree (moved k) v.scheme.body) (new_instance (put_value (moved k) v).scheme u).0)
    (ap (arrow_in (put_tree (moved k) v.scheme.body)) (instance_is_moved k v.scheme st u h)
    ∙ arrow_moved k v.scheme.body (new_instance v.scheme st).0)) (λ parts.
    both_then (AreMoved k) (PatsMove k) (unify_at depth sc at parts.0 a (new_instance v.scheme st).1)
    (unify_at depth (put_scope (moved k) sc) at (put (moved k) parts.0) (put (moved k) a)
    (new_instance (put_value (moved k) v).scheme u).1) _ _
    (unify_at_moved k depth sc at parts.0 a (new_instance v.scheme st).1
    (new_instance (put_value (moved k) v).scheme u).1
    (instance_moved k v.scheme st u h)) (λ p q i. (refl, refl, i))))

known_pat_moved : (k : ℕ) (sc : Scope) (long : LongName) (at : At) (bound : Bound) (st u : Progress) → AreMoved k st u
    → Both (PatsMove k) (known_pat sc long at bound st)
    (known_pat (put_scope (moved k) sc) long at (put_rows (moved k) bound) u)
known_pat_moved k sc long at bound st u h =
    plain_then (put_value (moved k)) (PatsMove k) (known sc long (found_at values long.parts sc.env))
    (known (put_scope (moved k) sc) long (found_at values long.parts (put_env (moved k) sc.env))) _ _
    (value_found_moved k sc long) (λ v. lone_moved k sc at bound v st u h)

name_by_moved : (k : ℕ) (sc : Scope) (at : At) (con : Bool) (name : List ℕ) (long : LongName) (bound : Bound)
    (st u : Progress) → AreMoved k st u
    → Both (PatsMove k) (name_by sc at con name long bound st)
    (name_by (put_scope (moved k) sc) at con name long (put_rows (moved k) bound) u)
name_by_moved k sc at true name long bound st u h = known_pat_moved k sc long at bound st u h
name_by_moved k sc at false name long bound st u h = bind_moved k sc at name bound st u h

name_moved : (k : ℕ) (sc : Scope) (long : LongName) (at : At) (parts : List (List ℕ)) (bound : Bound)
    (st u : Progress) → AreMoved k st u
    → Both (PatsMove k) (name_pat sc long at parts bound st)
    (name_pat (put_scope (moved k) sc) long at parts (put_rows (moved k) bound) u)
name_moved k sc long at [] bound st u h = known_pat_moved k sc long at bound st u h
name_moved k sc long at (name ∷ []) bound st u h =
    subst (λ z. Both (PatsMove k) (name_pat sc long at (name ∷ []) bound st)
    (name_by (put_scope (moved k) sc) at z name long (put_rows (moved k) bound) u))
    (sym (put_con_named (moved k) name sc.env))
    (name_by_moved k sc at (stands_for_con (entry name (values sc.env))) name long bound st u h)
name_moved k sc long at (name ∷ next ∷ rest) bound st u h = known_pat_moved k sc long at bound st u h

typed_moved : (k depth : ℕ) (sc : Scope) (at : At) (x : Ty) (ty : Option TyPhrase) (st u : Progress) → AreMoved k st u
    → Both (AreMoved k) (typed_variable depth sc at x ty st)
    (typed_variable depth (put_scope (moved k) sc) at (put (moved k) x) ty u)
typed_moved k depth sc at x None st u h = h
typed_moved k depth sc at x (Some ty) st u h =
    plain_then (put (moved k)) (AreMoved k) (infer_ty sc ty) (infer_ty (put_scope (moved k) sc) ty) _ _
    (ty_moved k sc ty) (λ t. unify_at_moved k depth sc at x t st u h)

mutual
  pub pat_moved : (k depth : ℕ) (sc : Scope) (pat : PatPhrase) (bound : Bound) (st u : Progress) → AreMoved k st u
      → Both (PatsMove k) (infer_pat depth sc pat bound st)
      (infer_pat depth (put_scope (moved k) sc) pat (put_rows (moved k) bound) u)
  pat_moved k depth sc (PatPhrase.Wild at) bound st u h =
      subst (λ z. Both (PatsMove k) (sized_pat sc at ((new_variable st).0, bound, (new_variable st).1))
      (sized_pat (put_scope (moved k) sc) at (z, put_rows (moved k) bound, (new_variable u).1)))
      (sym (new_is_moved k st u h))
      (pat_sized k sc at (new_variable st).0 bound (new_variable st).1 (new_variable u).1 (new_moved k st u h))
  pat_moved k depth sc (PatPhrase.Int value at) bound st u h = pat_sized k sc at int_ty bound st u h
  pat_moved k depth sc (PatPhrase.Str value at) bound st u h = pat_sized k sc at string_ty bound st u h
  pat_moved k depth sc (PatPhrase.Char value at) bound st u h = pat_sized k sc at char_ty bound st u h
  pat_moved k depth sc (PatPhrase.Long long at) bound st u h =
      both_move_then k (put (moved k)) (put_rows (moved k)) (PatsMove k) (name_pat sc long at long.parts bound st)
      (name_pat (put_scope (moved k) sc) long at long.parts (put_rows (moved k) bound) u) _ _
      (name_moved k sc long at long.parts bound st u h) (λ t c v w i. pat_sized k sc at t c v w i)
  pat_moved k depth sc (PatPhrase.Record fields at) bound st u h =
      both_move_then k (each_entry (put (moved k))) (put_rows (moved k)) (PatsMove k)
      (infer_pat_fields depth sc fields [] bound st)
      (infer_pat_fields depth (put_scope (moved k) sc) fields [] (put_rows (moved k) bound) u) _ _
      (pat_fields_moved k depth sc fields [] bound st u h) (λ rows c v w i.
      subst (λ z. Both (PatsMove k) (sized_pat sc at (record_ty rows, c, v))
      (sized_pat (put_scope (moved k) sc) at (z, put_rows (moved k) c, w))) (sym (record_moved k rows))
      (pat_sized k sc at (record_ty rows) c v w i))
  pat_moved k depth sc (PatPhrase.Con long arg at) bound st u h =
      plain_then (put_value (moved k)) (PatsMove k) (known sc long (found_at values long.parts sc.env))
      (known (put_scope (moved k) sc) long (found_at values long.parts (put_env (moved k) sc.env))) _ _
      (value_found_moved k sc long) (λ value.
      both_move_then k (put (moved k)) (put_rows (moved k)) (PatsMove k) (infer_pat depth sc arg bound st)
      (infer_pat depth (put_scope (moved k) sc) arg (put_rows (moved k) bound) u) _ _
      (pat_moved k depth sc arg bound st u h) (λ a c v w i.
      both_move_then k (put (moved k)) (put_rows (moved k)) (PatsMove k) (applied_con depth sc at value (a, c, v))
      (applied_con depth (put_scope (moved k) sc) at (put_value (moved k) value)
      (put (moved k) a, put_rows (moved k) c, w)) _ _
      (applied_moved k depth sc at value a c v w i) (λ t d x y j. pat_sized k sc at t d x y j)))
  pat_moved k depth sc (PatPhrase.Typed pat ty at) bound st u h =
      both_move_then k (put (moved k)) (put_rows (moved k)) (PatsMove k) (infer_pat depth sc pat bound st)
      (infer_pat depth (put_scope (moved k) sc) pat (put_rows (moved k) bound) u) _ _
      (pat_moved k depth sc pat bound st u h) (λ a c v w i.
      plain_then (put (moved k)) (PatsMove k) (infer_ty sc ty) (infer_ty (put_scope (moved k) sc) ty) _ _
      (ty_moved k sc ty) (λ t.
      both_then (AreMoved k) (PatsMove k) (unify_at depth sc at a t v)
      (unify_at depth (put_scope (moved k) sc) at (put (moved k) a) (put (moved k) t) w) _ _
      (unify_at_moved k depth sc at a t v w i) (λ x y j. pat_sized k sc at a c x y j)))
  pat_moved k depth sc (PatPhrase.As name ty pat at) bound st u h =
      both_where k (PatsMove k) (stands_for_con (entry name.text (values sc.env)))
      (stands_for_con (entry name.text (values (put_env (moved k) sc.env)))) 34 sc at _ _
      (put_con_named (moved k) name.text sc.env)
      (both_move_then k (put (moved k)) (put_rows (moved k)) (PatsMove k)
      (bind_variable sc (name_at name) name.text bound st)
      (bind_variable (put_scope (moved k) sc) (name_at name) name.text (put_rows (moved k) bound) u) _ _
      (bind_moved k sc (name_at name) name.text bound st u h) (λ x c v w i.
      both_then (AreMoved k) (PatsMove k) (typed_variable depth sc at x ty v)
      (typed_variable depth (put_scope (moved k) sc) at (put (moved k) x) ty w) _ _
      (typed_moved k depth sc at x ty v w i) (λ v2 w2 i2.
      both_move_then k (put (moved k)) (put_rows (moved k)) (PatsMove k) (infer_pat depth sc pat c v2)
      (infer_pat depth (put_scope (moved k) sc) pat (put_rows (moved k) c) w2) _ _
      (pat_moved k depth sc pat c v2 w2 i2) (λ a d v3 w3 i3.
      both_then (AreMoved k) (PatsMove k) (unify_at depth sc at x a v3)
      (unify_at depth (put_scope (moved k) sc) at (put (moved k) x) (put (moved k) a) w3) _ _
      (unify_at_moved k depth sc at x a v3 w3 i3) (λ p q j. pat_sized k sc at x d p q j)))))

  pub pat_fields_moved : (k depth : ℕ) (sc : Scope) (fields : PatFields) (made : Table Ty) (bound : Bound)
      (st u : Progress) → AreMoved k st u
      → Both (FieldsMove k) (infer_pat_fields depth sc fields made bound st)
      (infer_pat_fields depth (put_scope (moved k) sc) fields (each_entry (put (moved k)) made)
      (put_rows (moved k) bound) u)
  pat_fields_moved k depth sc PatFields.EndOfFields made bound st u h = (refl, refl, h)
  pat_fields_moved k depth sc (PatFields.Field label pat rest) made bound st u h =
      both_where k (FieldsMove k) (is_some (entry label.text made))
      (is_some (entry label.text (each_entry (put (moved k)) made))) 40 sc (name_at label) _ _
      (each_has (put (moved k)) label.text made)
      (both_move_then k (put (moved k)) (put_rows (moved k)) (FieldsMove k) (infer_pat depth sc pat bound st)
      (infer_pat depth (put_scope (moved k) sc) pat (put_rows (moved k) bound) u) _ _
      (pat_moved k depth sc pat bound st u h) (λ a c v w i.
      subst (λ z. Both (FieldsMove k) (infer_pat_fields depth sc rest (with_entry label.text a made) c v)
      (infer_pat_fields depth (put_scope (moved k) sc) rest z (put_rows (moved k) c) w))
      (sym (each_with (put (moved k)) label.text a made))
      (pat_fields_moved k depth sc rest (with_entry label.text a made) c v w i)))
