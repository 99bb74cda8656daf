-- Expressions, matches and declarations in environments that are seen alike.
use Rattle.std.proofs.Common.{◌≡◌, ℕ, List, [], ◌∷◌, ◌++◌, refl, ap, ap₂, Some, None, not}
use Rattle.std.specs.Prelude.{Ok, Err}
use Rattle.std.specs.Option.{is_some}
use Rattle.sml_trees.specs.declared.name.At.{At}
use Rattle.sml_trees.specs.declared.name.Name.{Name}
use Rattle.sml_trees.specs.declared.name.LongName.{LongName}
use Rattle.semantic_objects.specs.Tables.{Table, entry, with_entry}
use Rattle.semantic_objects.specs.Environments.{Env, values, empty_env, modified_by}
use Rattle.unification.specs.Types.{Ty, Substitution, put}
use Rattle.unification.specs.Touching.{Touches}
use Rattle.bare_phrases.specs.Phrases.{ExpPhrase, ExpFields, Rules, DecPhrase, DecPhrases}
use Rattle.static_semantics.specs.BasicTypes.{int_ty, string_ty, char_ty, exn_ty, arrow_ty, record_ty, reserved_constructors}
use Rattle.static_semantics.specs.Inferring.{Progress, Scope, Answer, under, with_written, name_at, known, unify_at, found_at, new_variable, new_instance, Bound, with_bound, under_bound, is_kept, is_too_large, has_too_large, sized_exp, sized_dec}
use Rattle.static_semantics.specs.Nonexpansive.{is_nonexpansive}
use Rattle.static_semantics.specs.TypeInference.{infer_ty, listed, as_written, infer_types}
use Rattle.static_semantics.specs.PatternInference.{pat_at, infer_pat}
use Rattle.static_semantics.specs.DatatypeInference.{datatypes_of, infer_replication, exceptions_of}
use Rattle.static_semantics.specs.CoreInference.{exp_at, known_exp, applied, joined, handled, raised, holds_made, within_let, own_variables, Group, added, is_variable, RecPats, infer_rec_pats, rec_bound, rec_groups, closed_val, infer_open, infer_exp, infer_exp_fields, infer_match, infer_rules, infer_binds, infer_rec_exps, infer_dec, infer_decs}
use Rattle.static_semantics.specs.Holding.{Given, AllItems, AllRows}
use Rattle.static_semantics.specs.Growing.{TyIn, Grows, IsReady}
use Rattle.static_semantics.proofs.Growing.{grows_then, ty_later, rows_later, ready_later, grows_instance, unify_grows}
use Rattle.static_semantics.proofs.TypesGrow.{ListedIn, MadeIn}
use Rattle.static_semantics.proofs.PatternsGrow.{PatIn, pat_grows}
use Rattle.static_semantics.proofs.DatatypesGrow.{ready_under}
use Rattle.static_semantics.proofs.CoreGrow.{ExpIn, ready_bound, ready_written, own_grows, RecIn, BindsIn, RecsIn, recs_later, rec_pats_grow, rec_bound_in, exp_grows, match_grows, rules_grow, binds_grow, rec_exps_grow, dec_grows, decs_grow}
use Rattle.static_semantics.proofs.Ages.{Any}
use Rattle.inference_laws.specs.Alike.{RowsAlike, Both, ValuesAlike, TypesSame, SeenAlike, SameTy, in_env, ExpsAlike, DecsAlike}
use Rattle.inference_laws.proofs.Alike.{same_then, both_same, both_then, both_plain, both_then3, both_where, found_some, rows_alike_with, rows_alike_found, rows_alike_after, alike_modified, alike_nothing}
use Rattle.inference_laws.proofs.SameTypes.{given_any, ty_same, listed_same, infer_types_same, datatypes_same, ItselfIn, types_are_itself, datatypes_itself}
use Rattle.inference_laws.proofs.SeenLater.{same_later, rows_same_later, seen_later, types_of_seen, instance_same, instance_state_same, value_alike, unify_same, unify_touches}
use Rattle.inference_laws.proofs.SeenBodies.{kept_same, large_same, nonexpansive_same, variable_same, bound_alike, rows_length, added_alike}
use Rattle.inference_laws.proofs.ClosingAlike.{exceptions_alike, replication_alike, open_alike, ItemsAlike, items_alike_after, items_alike_more, GroupAlike, val_same, val_itself}
use Rattle.inference_laws.proofs.PatternsAlike.{record_same, pat_alike}

abbrev ExpAt : Progress → Ty → Ty → Type 0
ExpAt u a b = SameTy u.types.stands a b

abbrev FieldsAt : Progress → Table Ty → Table Ty → Type 0
FieldsAt u a b = RowsAlike (SameTy u.types.stands) a b

abbrev FieldsAlike : Table Ty × Progress → Table Ty × Progress → Type 0
FieldsAlike r v = (r.1 ≡ v.1) × RowsAlike (SameTy r.1.types.stands) r.0 v.0

abbrev PatAt : Progress → Ty → Ty → Bound → Bound → Type 0
PatAt u a b c d = SameTy u.types.stands a b × RowsAlike (SameTy u.types.stands) c d

abbrev DecAt : Progress → Env → Env → Type 0
DecAt u a b = SeenAlike u.types.stands a b

abbrev BindsAt : Progress → Bound → Bound → List Group → List Group → Type 0
BindsAt u a b c d = RowsAlike (SameTy u.types.stands) a b × ItemsAlike (GroupAlike u.types.stands) c d

abbrev BindsAlike : Bound × List Group × Progress → Bound × List Group × Progress → Type 0
BindsAlike r v = (r.2 ≡ v.2)
    × (RowsAlike (SameTy r.2.types.stands) r.0 v.0 × ItemsAlike (GroupAlike r.2.types.stands) r.1 v.1)

abbrev RecAlike : Substitution → Ty × Bound → Ty × Bound → Type 0
RecAlike s r v = SameTy s r.0 v.0 × RowsAlike (SameTy s) r.1 v.1

abbrev RecsAt : Progress → RecPats → RecPats → Type 0
RecsAt u a b = ItemsAlike (RecAlike u.types.stands) a b

abbrev RecsAlike : RecPats × Progress → RecPats × Progress → Type 0
RecsAlike r v = (r.1 ≡ v.1) × ItemsAlike (RecAlike r.1.types.stands) r.0 v.0

abbrev SameState : Progress → Progress → Type 0
SameState u v = u ≡ v

-- ---- answers

equal_answers : {A : Type 0} (m n : Answer A) → Both (λ x y. x ≡ y) m n → m ≡ n
equal_answers None None h = refl
equal_answers None (Some y) h = absurd h
equal_answers (Some (Err d)) None h = absurd h
equal_answers (Some (Ok x)) None h = absurd h
equal_answers (Some (Err d)) (Some (Err e)) h = ap (λ z. Some (Err z)) h
equal_answers (Some (Err d)) (Some (Ok y)) h = absurd h
equal_answers (Some (Ok x)) (Some (Err e)) h = absurd h
equal_answers (Some (Ok x)) (Some (Ok y)) h = ap (λ z. Some (Ok z)) h

given_each : {A : Type 0} (R : Substitution → A → Type 0) (m : Answer A) → ((s : Substitution) → Given (R s) m)
    → Given (λ x. (s : Substitution) → R s x) m
given_each R None h = tt
given_each R (Some (Err d)) h = tt
given_each R (Some (Ok x)) h = λ s. h s

exp_sized : (sc : Scope) (f : Env) (at : At) (a b : Ty) (u : Progress) → ExpAt u a b
    → Both ExpsAlike (sized_exp sc at (a, u)) (sized_exp (in_env f sc) at (b, u))
exp_sized sc f at a b u h = both_where ExpsAlike (is_too_large (put u.types.stands a))
    (is_too_large (put u.types.stands b)) 38 sc f at _ _ (ap is_too_large h) (refl, h)

dec_sized : (sc : Scope) (f : Env) (at : At) (a b : Env) (u : Progress) → DecAt u a b
    → Both DecsAlike (sized_dec sc at (a, u)) (sized_dec (in_env f sc) at (b, u))
dec_sized sc f at a b u h = both_where DecsAlike (has_too_large u.types.stands a) (has_too_large u.types.stands b) 38
    sc f
    at _ _ (large_same u.types.stands a b h) (refl, h)

-- ---- steps of expressions

arrow_same : (s : Substitution) (a b c d : Ty) → SameTy s a c → SameTy s b d → SameTy s (arrow_ty a b) (arrow_ty c d)
arrow_same s a b c d h k = ap₂ arrow_ty h k

known_alike : (sc : Scope) (f : Env) (long : LongName) (st : Progress) → IsReady Any sc st
    → SeenAlike st.types.stands sc.env f → Both ExpsAlike (known_exp sc long st) (known_exp (in_env f sc) long st)
known_alike sc f long st h k =
    both_plain (λ v. Unit {0}) (ValuesAlike st.types.stands) ExpsAlike
    (known sc long (found_at values long.parts sc.env)) (known (in_env f sc) long (found_at values long.parts f)) _ _
    (given_any (known sc long (found_at values long.parts sc.env))) (value_alike st.types.stands sc f long k)
    (λ v w _ l. (
      instance_state_same v.scheme w.scheme st l.marks,
      same_later st (new_instance v.scheme st).1 (new_instance v.scheme st).0 (new_instance w.scheme st).0
          (grows_instance Any v.scheme st h.fit h.new).touches (instance_same v.scheme w.scheme st l.body),
    ))

applied_same : (depth : ℕ) (sc : Scope) (f : Env) (at : At) (a b c d : Ty) (st : Progress)
    → SameTy st.types.stands a c → SameTy st.types.stands b d
    → applied depth sc at a b st ≡ applied depth (in_env f sc) at c d st
applied_same depth sc f at a b c d st h k =
    both_same (unify_at depth sc at a (arrow_ty b (new_variable st).0) (new_variable st).1)
    (unify_at depth (in_env f sc) at c (arrow_ty d (new_variable st).0) (new_variable st).1) _ _
    (unify_same depth sc f at a (arrow_ty b (new_variable st).0) c (arrow_ty d (new_variable st).0) (new_variable st).1
    h
    (arrow_same st.types.stands b (new_variable st).0 d (new_variable st).0 k refl)) (λ u. refl)

joined_alike : (depth : ℕ) (sc : Scope) (f : Env) (at : At) (a b t : Ty) (st : Progress) → IsReady Any sc st
    → SameTy st.types.stands a b
    → Both ExpsAlike (joined depth sc at a t st) (joined depth (in_env f sc) at b t st)
joined_alike depth sc f at a b t st h k =
    same_then (λ u. Touches Any st.types u.types) ExpsAlike (unify_at depth sc at a t st)
    (unify_at depth (in_env f sc) at b t st) _ _ (unify_same depth sc f at a t b t st k refl)
    (unify_touches depth sc at a t st h.fit) (λ u l. (refl, same_later st u a b l k))

handled_alike : (depth : ℕ) (sc : Scope) (f : Env) (at : At) (a b m n : Ty) (st : Progress) → IsReady Any sc st
    → SameTy st.types.stands a b → SameTy st.types.stands m n
    → Both ExpsAlike (handled depth sc at a m st) (handled depth (in_env f sc) at b n st)
handled_alike depth sc f at a b m n st h k l =
    same_then (λ u. Touches Any st.types u.types) ExpsAlike (unify_at depth sc at m (arrow_ty exn_ty a) st)
    (unify_at depth (in_env f sc) at n (arrow_ty exn_ty b) st) _ _
    (unify_same depth sc f at m (arrow_ty exn_ty a) n (arrow_ty exn_ty b) st l
    (arrow_same st.types.stands exn_ty a exn_ty b refl k)) (unify_touches depth sc at m (arrow_ty exn_ty a) st h.fit)
    (λ u i. (refl, same_later st u a b i k))

raised_same : (depth : ℕ) (sc : Scope) (f : Env) (at : At) (a b : Ty) (st : Progress) → SameTy st.types.stands a b
    → raised depth sc at a st ≡ raised depth (in_env f sc) at b st
raised_same depth sc f at a b st k = both_same (unify_at depth sc at a exn_ty st)
    (unify_at depth (in_env f sc) at b exn_ty st) _ _ (unify_same depth sc f at a exn_ty b exn_ty st k refl) (λ u. refl)

let_alike : (sc : Scope) (f : Env) (at : At) (from to : ℕ) (a b : Ty) (u : Progress) → ExpAt u a b
    → Both ExpsAlike (within_let sc at from to (a, u)) (within_let (in_env f sc) at from to (b, u))
let_alike sc f at from to a b u h = both_where ExpsAlike (holds_made sc.home from to (put u.types.stands a))
    (holds_made sc.home from to (put u.types.stands b)) 41 sc f at _ _ (ap (holds_made sc.home from to) h) (refl, h)

-- ---- steps of `val`

own_same : (sc : Scope) (f : Env) (tyvars : List Name) (rules recs : Rules) (st : Progress)
    → own_variables sc tyvars rules recs st ≡ own_variables (in_env f sc) tyvars rules recs st
own_same sc f tyvars rules recs st = both_same (listed sc tyvars [] st) (listed (in_env f sc) tyvars [] st) _ _
    (listed_same sc f tyvars [] st) (λ r. refl)

groups_alike_later : (st u : Progress) (gs hs : List Group) → Touches Any st.types u.types
    → ItemsAlike (GroupAlike st.types.stands) gs hs → ItemsAlike (GroupAlike u.types.stands) gs hs
groups_alike_later st u gs hs g h = items_alike_more (GroupAlike st.types.stands) (GroupAlike u.types.stands) gs hs
    (λ x y k. (k.0, rows_same_later st u x.1 y.1 g k.1)) h

recs_alike_later : (st u : Progress) (xs ys : RecPats) → Touches Any st.types u.types
    → ItemsAlike (RecAlike st.types.stands) xs ys → ItemsAlike (RecAlike u.types.stands) xs ys
recs_alike_later st u xs ys g h = items_alike_more (RecAlike st.types.stands) (RecAlike u.types.stands) xs ys
    (λ x y k. (same_later st u x.0 y.0 g k.0, rows_same_later st u x.1 y.1 g k.1)) h

rec_pats_alike : (depth : ℕ) (sc : Scope) (f : Env) (rules : Rules) (made other : RecPats) (c d : Bound) (st : Progress)
    → IsReady Any sc st → AllRows (TyIn Any st.types) c → SeenAlike st.types.stands sc.env f
    → ItemsAlike (RecAlike st.types.stands) made other → RowsAlike (SameTy st.types.stands) c d
    → Both RecsAlike (infer_rec_pats depth sc rules made c st) (infer_rec_pats depth (in_env f sc) rules other d st)
rec_pats_alike depth sc f Rules.EndOfRules made other c d st h i k m l = (refl, m)
rec_pats_alike depth sc f (Rules.Rule pat exp rest) made other c d st h i k m l =
    both_then3 (PatIn Any st) PatAt RecsAlike (infer_pat depth sc pat c st) (infer_pat depth (in_env f sc) pat d st) _ _
    (pat_grows Any depth sc pat c st h i) (pat_alike depth sc f pat c d st h i k l) (λ a b x y u g n.
    both_where RecsAlike (not (is_variable sc.env pat)) (not (is_variable f pat)) 34 sc f (pat_at pat) _ _
    (ap not (variable_same st.types.stands sc.env f pat k))
    (rec_pats_alike depth sc f rest (made ++ (a, added c x) ∷ []) (other ++ (b, added d y) ∷ []) x y u
    (ready_later Any sc st u h g.0) g.2 (seen_later st u sc.env f g.0.touches k)
    (items_alike_after (RecAlike u.types.stands) made other ((a, added c x) ∷ []) ((b, added d y) ∷ [])
    (recs_alike_later st u made other g.0.touches m)
    ((n.0, added_alike u.types.stands c d x y n.1 (rows_length (SameTy st.types.stands) c d l)), tt)) n.1))

rec_bound_alike : (s : Substitution) (xs ys : RecPats) → ItemsAlike (RecAlike s) xs ys
    → RowsAlike (SameTy s) (rec_bound xs) (rec_bound ys)
rec_bound_alike s [] [] h = tt
rec_bound_alike s [] (y ∷ ys) h = absurd h
rec_bound_alike s (x ∷ xs) [] h = absurd h
rec_bound_alike s (x ∷ xs) (y ∷ ys) h = rows_alike_after (SameTy s) x.1 y.1 (rec_bound xs) (rec_bound ys) h.0.1
    (rec_bound_alike s xs ys h.1)

-- which of the environments tells what is nonexpansive doesn't matter
rec_groups_alike : (s p : Substitution) (e f : Env) (rules : Rules) (xs ys : RecPats) → SeenAlike p e f
    → ItemsAlike (RecAlike s) xs ys → ItemsAlike (GroupAlike s) (rec_groups e rules xs) (rec_groups f rules ys)
rec_groups_alike s p e f Rules.EndOfRules xs ys k h = tt
rec_groups_alike s p e f (Rules.Rule pat exp rest) [] [] k h = tt
rec_groups_alike s p e f (Rules.Rule pat exp rest) [] (y ∷ ys) k h = absurd h
rec_groups_alike s p e f (Rules.Rule pat exp rest) (x ∷ xs) [] k h = absurd h
rec_groups_alike s p e f (Rules.Rule pat exp rest) (x ∷ xs) (y ∷ ys) k h =
    ((nonexpansive_same p e f exp k, h.0.1), rec_groups_alike s p e f rest xs ys k h.1)

-- ---- the phrases

mutual
  pub exp_alike : (depth : ℕ) (sc : Scope) (f : Env) (exp : ExpPhrase) (st : Progress) → IsReady Any sc st
      → SeenAlike st.types.stands sc.env f
      → Both ExpsAlike (infer_exp depth sc exp st) (infer_exp depth (in_env f sc) exp st)
  exp_alike depth sc f (ExpPhrase.Int value at) st h k = exp_sized sc f at int_ty int_ty st refl
  exp_alike depth sc f (ExpPhrase.Str value at) st h k = exp_sized sc f at string_ty string_ty st refl
  exp_alike depth sc f (ExpPhrase.Char value at) st h k = exp_sized sc f at char_ty char_ty st refl
  exp_alike depth sc f (ExpPhrase.Long long at) st h k =
      both_then (λ r. Unit {0}) ExpAt ExpsAlike (known_exp sc long st) (known_exp (in_env f sc) long st) _ _
      (given_any (known_exp sc long st)) (known_alike sc f long st h k) (λ a b u _ l. exp_sized sc f at a b u l)
  exp_alike depth sc f (ExpPhrase.Record fields at) st h k =
      both_then (λ r. Unit {0}) FieldsAt ExpsAlike (infer_exp_fields depth sc fields [] st)
      (infer_exp_fields depth (in_env f sc) fields [] st) _ _ (given_any (infer_exp_fields depth sc fields [] st))
      (exp_fields_alike depth sc f fields [] [] st h k tt) (λ a b u _ l.
      exp_sized sc f at (record_ty a) (record_ty b) u (record_same u.types.stands a b l))
  exp_alike depth sc f (ExpPhrase.Let dec body at) st h k =
      both_then (MadeIn Any st) DecAt ExpsAlike (infer_dec depth sc dec st) (infer_dec depth (in_env f sc) dec st) _ _
      (dec_grows Any depth sc dec st h) (dec_alike depth sc f dec st h k) (λ d e u g l.
      both_then (λ r. Unit {0}) ExpAt ExpsAlike (infer_exp depth (under d sc) body u)
      (infer_exp depth (under e (in_env f sc)) body u) _ _ (given_any (infer_exp depth (under d sc) body u))
      (exp_alike depth (under d sc) (modified_by f e) body u
      (ready_under Any d sc u g.1 (ready_later Any sc st u h g.0))
      (alike_modified (ValuesAlike u.types.stands) TypesSame sc.env f d e (seen_later st u sc.env f g.0.touches k) l))
      (λ a b v _ m.
      both_then (λ r. Unit {0}) ExpAt ExpsAlike (within_let sc at st.names u.names (a, v))
      (within_let (in_env f sc) at st.names u.names (b, v)) _ _ (given_any (within_let sc at st.names u.names (a, v)))
      (let_alike sc f at st.names u.names a b v m) (λ x y w _ n. exp_sized sc f at x y w n)))
  exp_alike depth sc f (ExpPhrase.App function argument at) st h k =
      both_then (ExpIn Any st) ExpAt ExpsAlike (infer_exp depth sc function st)
      (infer_exp depth (in_env f sc) function st) _ _ (exp_grows Any depth sc function st h)
      (exp_alike depth sc f function st h k) (λ a b u g l.
      both_then (ExpIn Any u) ExpAt ExpsAlike (infer_exp depth sc argument u)
      (infer_exp depth (in_env f sc) argument u) _ _ (exp_grows Any depth sc argument u (ready_later Any sc st u h g.0))
      (exp_alike depth sc f argument u (ready_later Any sc st u h g.0) (seen_later st u sc.env f g.0.touches k))
      (λ x y v i m.
      same_then (λ r. Unit {0}) ExpsAlike (applied depth sc at a x v) (applied depth (in_env f sc) at b y v) _ _
      (applied_same depth sc f at a x b y v (same_later u v a b i.0.touches l) m)
      (given_any (applied depth sc at a x v)) (λ r _. exp_sized sc f at r.0 r.0 r.1 refl)))
  exp_alike depth sc f (ExpPhrase.Typed exp ty at) st h k =
      both_then (ExpIn Any st) ExpAt ExpsAlike (infer_exp depth sc exp st) (infer_exp depth (in_env f sc) exp st) _ _
      (exp_grows Any depth sc exp st h) (exp_alike depth sc f exp st h k) (λ a b u g l.
      same_then (λ t. Unit {0}) ExpsAlike (infer_ty sc ty) (infer_ty (in_env f sc) ty) _ _
      (ty_same sc f ty (types_of_seen st.types.stands sc.env f k)) (given_any (infer_ty sc ty)) (λ t _.
      both_then (λ r. Unit {0}) ExpAt ExpsAlike (joined depth sc at a t u) (joined depth (in_env f sc) at b t u) _ _
      (given_any (joined depth sc at a t u)) (joined_alike depth sc f at a b t u (ready_later Any sc st u h g.0) l)
      (λ x y v _ m. exp_sized sc f at x y v m)))
  exp_alike depth sc f (ExpPhrase.Handle exp rules at) st h k =
      both_then (ExpIn Any st) ExpAt ExpsAlike (infer_exp depth sc exp st) (infer_exp depth (in_env f sc) exp st) _ _
      (exp_grows Any depth sc exp st h) (exp_alike depth sc f exp st h k) (λ a b u g l.
      both_then (ExpIn Any u) ExpAt ExpsAlike (infer_match depth sc rules u) (infer_match depth (in_env f sc) rules u)
      _ _
      (match_grows Any depth sc rules u (ready_later Any sc st u h g.0))
      (match_alike depth sc f rules u (ready_later Any sc st u h g.0) (seen_later st u sc.env f g.0.touches k))
      (λ m n v i j.
      both_then (λ r. Unit {0}) ExpAt ExpsAlike (handled depth sc at a m v) (handled depth (in_env f sc) at b n v) _ _
      (given_any (handled depth sc at a m v))
      (handled_alike depth sc f at a b m n v (ready_later Any sc u v (ready_later Any sc st u h g.0) i.0)
      (same_later u v a b i.0.touches l) j) (λ x y w _ o. exp_sized sc f at x y w o)))
  exp_alike depth sc f (ExpPhrase.Raise exp at) st h k =
      both_then (ExpIn Any st) ExpAt ExpsAlike (infer_exp depth sc exp st) (infer_exp depth (in_env f sc) exp st) _ _
      (exp_grows Any depth sc exp st h) (exp_alike depth sc f exp st h k) (λ a b u g l.
      same_then (λ r. Unit {0}) ExpsAlike (raised depth sc at a u) (raised depth (in_env f sc) at b u) _ _
      (raised_same depth sc f at a b u l) (given_any (raised depth sc at a u)) (λ r _.
      exp_sized sc f at r.0 r.0 r.1 refl))
  exp_alike depth sc f (ExpPhrase.Fn rules at) st h k =
      both_then (λ r. Unit {0}) ExpAt ExpsAlike (infer_match depth sc rules st)
      (infer_match depth (in_env f sc) rules st)
      _ _ (given_any (infer_match depth sc rules st)) (match_alike depth sc f rules st h k)
      (λ a b u _ l. exp_sized sc f at a b u l)

  pub exp_fields_alike : (depth : ℕ) (sc : Scope) (f : Env) (fields : ExpFields) (made other : Table Ty) (st : Progress)
      → IsReady Any sc st → SeenAlike st.types.stands sc.env f → RowsAlike (SameTy st.types.stands) made other
      → Both FieldsAlike (infer_exp_fields depth sc fields made st) (infer_exp_fields depth (in_env f sc) fields other
      st)
  exp_fields_alike depth sc f ExpFields.EndOfFields made other st h k l = (refl, l)
  exp_fields_alike depth sc f (ExpFields.Field label exp rest) made other st h k l =
      both_where FieldsAlike (is_some (entry label.text made)) (is_some (entry label.text other)) 40 sc f
      (name_at label)
      _ _ (found_some (SameTy st.types.stands) (entry label.text made) (entry label.text other)
      (rows_alike_found (SameTy st.types.stands) label.text made other l))
      (both_then (ExpIn Any st) ExpAt FieldsAlike (infer_exp depth sc exp st) (infer_exp depth (in_env f sc) exp st) _ _
      (exp_grows Any depth sc exp st h) (exp_alike depth sc f exp st h k) (λ a b u g m.
      exp_fields_alike depth sc f rest (with_entry label.text a made) (with_entry label.text b other) u
      (ready_later Any sc st u h g.0) (seen_later st u sc.env f g.0.touches k)
      (rows_alike_with (SameTy u.types.stands) label.text a b made other m
      (rows_same_later st u made other g.0.touches l))))

  pub match_alike : (depth : ℕ) (sc : Scope) (f : Env) (rules : Rules) (st : Progress) → IsReady Any sc st
      → SeenAlike st.types.stands sc.env f
      → Both ExpsAlike (infer_match depth sc rules st) (infer_match depth (in_env f sc) rules st)
  match_alike depth sc f Rules.EndOfRules st h k = (refl, refl)
  match_alike depth sc f (Rules.Rule pat exp rest) st h k =
      both_then3 (PatIn Any st) PatAt ExpsAlike (infer_pat depth sc pat [] st)
      (infer_pat depth (in_env f sc) pat [] st) _ _
      (pat_grows Any depth sc pat [] st h tt) (pat_alike depth sc f pat [] [] st h tt k tt) (λ a b c d u g l.
      let ready : IsReady Any (under_bound c sc) u = ready_bound Any c sc u g.2 (ready_later Any sc st u h g.0) in
      both_then (ExpIn Any u) ExpAt ExpsAlike (infer_exp depth (under_bound c sc) exp u)
      (infer_exp depth (under_bound d (in_env f sc)) exp u) _ _ (exp_grows Any depth (under_bound c sc) exp u ready)
      (exp_alike depth (under_bound c sc) (with_bound d f) exp u ready
      (bound_alike u.types.stands c d sc.env f l.1 (seen_later st u sc.env f g.0.touches k))) (λ x y v i m.
      let all : Grows Any st v = grows_then Any st u v g.0 i.0 in
      let e : SameTy v.types.stands a b = same_later u v a b i.0.touches l.0 in
      same_then (Grows Any v) ExpsAlike (infer_rules depth sc a x rest v) (infer_rules depth (in_env f sc) b y rest v)
      _ _
      (equal_answers (infer_rules depth sc a x rest v) (infer_rules depth (in_env f sc) b y rest v)
      (rules_alike depth sc f a x b y rest v (ready_later Any sc st v h all) (seen_later st v sc.env f all.touches k)
      (ty_later Any u v a i.0 g.1) i.1 e m))
      (rules_grow Any depth sc a x rest v (ready_later Any sc st v h all) (ty_later Any u v a i.0 g.1) i.1) (λ w j.
      (refl, arrow_same w.types.stands a x b y (same_later v w a b j.touches e) (same_later v w x y j.touches m)))))

  pub rules_alike : (depth : ℕ) (sc : Scope) (f : Env) (from to other goal : Ty) (rules : Rules) (st : Progress)
      → IsReady Any sc st → SeenAlike st.types.stands sc.env f → TyIn Any st.types from → TyIn Any st.types to
      → SameTy st.types.stands from other → SameTy st.types.stands to goal
      → Both SameState (infer_rules depth sc from to rules st) (infer_rules depth (in_env f sc) other goal rules st)
  rules_alike depth sc f from to other goal Rules.EndOfRules st h k i j l m = refl
  rules_alike depth sc f from to other goal (Rules.Rule pat exp rest) st h k i j l m =
      both_then3 (PatIn Any st) PatAt SameState (infer_pat depth sc pat [] st)
      (infer_pat depth (in_env f sc) pat [] st) _ _
      (pat_grows Any depth sc pat [] st h tt) (pat_alike depth sc f pat [] [] st h tt k tt) (λ a b c d u g n.
      same_then (Grows Any u) SameState (unify_at depth sc (pat_at pat) a from u)
      (unify_at depth (in_env f sc) (pat_at pat) b other u) _ _
      (unify_same depth sc f (pat_at pat) a from b other u n.0 (same_later st u from other g.0.touches l))
      (unify_grows Any depth sc (pat_at pat) a from u g.0.fit g.1 (ty_later Any st u from g.0 i)) (λ v o.
      let g2 : Grows Any st v = grows_then Any st u v g.0 o in
      let ready : IsReady Any (under_bound c sc) v =
      ready_bound Any c sc v (rows_later Any u v c o g.2) (ready_later Any sc st v h g2) in
      both_then (ExpIn Any v) ExpAt SameState (infer_exp depth (under_bound c sc) exp v)
      (infer_exp depth (under_bound d (in_env f sc)) exp v) _ _ (exp_grows Any depth (under_bound c sc) exp v ready)
      (exp_alike depth (under_bound c sc) (with_bound d f) exp v ready
      (bound_alike v.types.stands c d sc.env f (rows_same_later u v c d o.touches n.1)
      (seen_later st v sc.env f g2.touches k))) (λ x y w p q.
      let g3 : Grows Any st w = grows_then Any st v w g2 p.0 in
      same_then (Grows Any w) SameState (unify_at depth sc (exp_at exp) x to w)
      (unify_at depth (in_env f sc) (exp_at exp) y goal w) _ _
      (unify_same depth sc f (exp_at exp) x to y goal w q (same_later st w to goal g3.touches m))
      (unify_grows Any depth sc (exp_at exp) x to w p.0.fit p.1 (ty_later Any st w to g3 j)) (λ r s.
      let g4 : Grows Any st r = grows_then Any st w r g3 s in
      rules_alike depth sc f from to other goal rest r (ready_later Any sc st r h g4)
      (seen_later st r sc.env f g4.touches k)
      (ty_later Any st r from g4 i) (ty_later Any st r to g4 j) (same_later st r from other g4.touches l)
      (same_later st r to goal g4.touches m)))))

  pub binds_alike : (depth : ℕ) (sc : Scope) (f : Env) (rules : Rules) (c d : Bound) (gs hs : List Group)
      (st : Progress)
      → IsReady Any sc st → AllRows (TyIn Any st.types) c → SeenAlike st.types.stands sc.env f
      → RowsAlike (SameTy st.types.stands) c d → ItemsAlike (GroupAlike st.types.stands) gs hs
      → Both BindsAlike (infer_binds depth sc rules c gs st) (infer_binds depth (in_env f sc) rules d hs st)
  binds_alike depth sc f Rules.EndOfRules c d gs hs st h i k l m = (refl, (l, m))
  binds_alike depth sc f (Rules.Rule pat exp rest) c d gs hs st h i k l m =
      both_then3 (PatIn Any st) PatAt BindsAlike (infer_pat depth sc pat c st) (infer_pat depth (in_env f sc) pat d st)
      _ _
      (pat_grows Any depth sc pat c st h i) (pat_alike depth sc f pat c d st h i k l) (λ a b x y u g n.
      both_then (ExpIn Any u) ExpAt BindsAlike (infer_exp depth sc exp u) (infer_exp depth (in_env f sc) exp u) _ _
      (exp_grows Any depth sc exp u (ready_later Any sc st u h g.0))
      (exp_alike depth sc f exp u (ready_later Any sc st u h g.0) (seen_later st u sc.env f g.0.touches k))
      (λ t r v o p.
      same_then (Grows Any v) BindsAlike (unify_at depth sc (pat_at pat) a t v)
      (unify_at depth (in_env f sc) (pat_at pat) b r v) _ _
      (unify_same depth sc f (pat_at pat) a t b r v (same_later u v a b o.0.touches n.0) p)
      (unify_grows Any depth sc (pat_at pat) a t v o.0.fit (ty_later Any u v a o.0 g.1) o.1) (λ w q.
      let g2 : Grows Any u w = grows_then Any u v w o.0 q in
      let g3 : Grows Any st w = grows_then Any st u w g.0 g2 in
      let first : Group = (is_nonexpansive sc.env exp, added c x) in
      let second : Group = (is_nonexpansive f exp, added d y) in
      binds_alike depth sc f rest x y (gs ++ first ∷ []) (hs ++ second ∷ []) w (ready_later Any sc st w h g3)
      (rows_later Any u w x g2 g.2) (seen_later st w sc.env f g3.touches k) (rows_same_later u w x y g2.touches n.1)
      (items_alike_after (GroupAlike w.types.stands) gs hs (first ∷ []) (second ∷ [])
      (groups_alike_later st w gs hs g3.touches m) (
        (
          nonexpansive_same st.types.stands sc.env f exp k,
          added_alike w.types.stands c d x y (rows_same_later u w x y g2.touches n.1)
              (rows_length (SameTy st.types.stands) c d l),
        ),
        tt,
      )))))

  pub rec_exps_alike : (depth : ℕ) (sc : Scope) (f : Env) (rules : Rules) (xs ys : RecPats) (st : Progress)
      → IsReady Any sc st → AllItems (RecIn Any st.types) xs → SeenAlike st.types.stands sc.env f
      → ItemsAlike (RecAlike st.types.stands) xs ys
      → Both SameState (infer_rec_exps depth sc rules xs st) (infer_rec_exps depth (in_env f sc) rules ys st)
  rec_exps_alike depth sc f Rules.EndOfRules xs ys st h i k l = refl
  rec_exps_alike depth sc f (Rules.Rule pat exp rest) [] [] st h i k l = tt
  rec_exps_alike depth sc f (Rules.Rule pat exp rest) [] (y ∷ ys) st h i k l = absurd l
  rec_exps_alike depth sc f (Rules.Rule pat exp rest) (x ∷ xs) [] st h i k l = absurd l
  rec_exps_alike depth sc f (Rules.Rule pat exp rest) (x ∷ xs) (y ∷ ys) st h i k l =
      both_then (ExpIn Any st) ExpAt SameState (infer_exp depth sc exp st) (infer_exp depth (in_env f sc) exp st) _ _
      (exp_grows Any depth sc exp st h) (exp_alike depth sc f exp st h k) (λ a b u g m.
      same_then (Grows Any u) SameState (unify_at depth sc (pat_at pat) x.0 a u)
      (unify_at depth (in_env f sc) (pat_at pat) y.0 b u) _ _
      (unify_same depth sc f (pat_at pat) x.0 a y.0 b u (same_later st u x.0 y.0 g.0.touches l.0.0) m)
      (unify_grows Any depth sc (pat_at pat) x.0 a u g.0.fit (ty_later Any st u x.0 g.0 i.0.0) g.1) (λ v n.
      let g2 : Grows Any st v = grows_then Any st u v g.0 n in
      rec_exps_alike depth sc f rest xs ys v (ready_later Any sc st v h g2) (recs_later Any st v xs g2 i.1)
      (seen_later st v sc.env f g2.touches k) (recs_alike_later st v xs ys g2.touches l.1)))

  pub dec_alike : (depth : ℕ) (sc : Scope) (f : Env) (dec : DecPhrase) (st : Progress) → IsReady Any sc st
      → SeenAlike st.types.stands sc.env f
      → Both DecsAlike (infer_dec depth sc dec st) (infer_dec depth (in_env f sc) dec st)
  dec_alike depth sc f (DecPhrase.Val tyvars rules recs at) st h k =
      same_then (ListedIn Any st) DecsAlike (own_variables sc tyvars rules recs st)
      (own_variables (in_env f sc) tyvars rules recs st) _ _ (own_same sc f tyvars rules recs st)
      (own_grows Any sc tyvars rules recs st h) (λ own g.
      let inner : Scope = with_written (as_written own.0) sc in
      let ready : IsReady Any inner own.1 = ready_written Any own.0 sc own.1 g.1 (ready_later Any sc st own.1 h g.0) in
      let seen : SeenAlike own.1.types.stands sc.env f = seen_later st own.1 sc.env f g.0.touches k in
      both_then3 (BindsIn Any own.1) BindsAt DecsAlike (infer_binds depth inner rules [] [] own.1)
      (infer_binds depth (in_env f inner) rules [] [] own.1) _ _ (binds_grow Any depth inner rules [] [] own.1 ready tt
      tt)
      (binds_alike depth inner f rules [] [] [] [] own.1 ready tt seen tt tt) (λ c d gs hs u b l.
      let ready_u : IsReady Any inner u = ready_later Any inner own.1 u ready b.0 in
      let seen_u : SeenAlike u.types.stands sc.env f = seen_later own.1 u sc.env f b.0.touches seen in
      both_then (RecsIn Any u) RecsAt DecsAlike (infer_rec_pats depth inner recs [] c u)
      (infer_rec_pats depth (in_env f inner) recs [] d u) _ _ (rec_pats_grow Any depth inner recs [] c u ready_u tt b.1)
      (rec_pats_alike depth inner f recs [] [] c d u ready_u b.1 seen_u tt l.0) (λ xs ys v p m.
      let whole : Scope = under_bound (rec_bound xs) inner in
      let ready_v : IsReady Any whole v = ready_bound Any (rec_bound xs) inner v (rec_bound_in Any v.types xs p.1)
      (ready_later Any inner u v ready_u p.0) in
      let seen_v : SeenAlike v.types.stands sc.env f = seen_later u v sc.env f p.0.touches seen_u in
      same_then (Grows Any v) DecsAlike (infer_rec_exps depth whole recs xs v)
      (infer_rec_exps depth (under_bound (rec_bound ys) (in_env f inner)) recs ys v) _ _
      (equal_answers (infer_rec_exps depth whole recs xs v)
      (infer_rec_exps depth (under_bound (rec_bound ys) (in_env f inner)) recs ys v)
      (rec_exps_alike depth whole (with_bound (rec_bound ys) f) recs xs ys v ready_v p.1
      (bound_alike v.types.stands (rec_bound xs) (rec_bound ys) sc.env f (rec_bound_alike v.types.stands xs ys m)
      seen_v)
      m)) (rec_exps_grow Any depth whole recs xs v ready_v p.1) (λ w n.
      let seen_w : SeenAlike w.types.stands sc.env f = seen_later v w sc.env f n.touches seen_v in
      let groups : List Group = gs ++ rec_groups sc.env recs xs in
      let others : List Group = hs ++ rec_groups f recs ys in
      same_then (λ r. (s : Substitution) → ItselfIn s r.0) DecsAlike
      (closed_val sc at (is_kept sc w.types.stands) own.0 groups w)
      (closed_val (in_env f sc) at (is_kept (in_env f sc) w.types.stands) own.0 others w) _ _
      (val_same sc f at (is_kept sc w.types.stands) (is_kept (in_env f sc) w.types.stands) own.0 groups others w
      (λ i. kept_same sc f w.types.stands i seen_w)
      (items_alike_after (GroupAlike w.types.stands) gs hs (rec_groups sc.env recs xs) (rec_groups f recs ys)
      (groups_alike_later v w gs hs n.touches (groups_alike_later u v gs hs p.0.touches l.1))
      (rec_groups_alike w.types.stands st.types.stands sc.env f recs xs ys k
      (recs_alike_later v w xs ys n.touches m))))
      (given_each (λ s r. ItselfIn s r.0) (closed_val sc at (is_kept sc w.types.stands) own.0 groups w)
      (λ s. val_itself s sc at (is_kept sc w.types.stands) own.0 groups w)) (λ r i.
      dec_sized sc f at r.0 r.0 r.1 (i r.1.types.stands))))))
  dec_alike depth sc f (DecPhrase.Types binds at) st h k =
      same_then (λ r. (s : Substitution) → ItselfIn s r.0) DecsAlike (infer_types sc binds empty_env st)
      (infer_types (in_env f sc) binds empty_env st) _ _
      (infer_types_same sc f binds empty_env st (types_of_seen st.types.stands sc.env f k))
      (given_each (λ s r. ItselfIn s r.0) (infer_types sc binds empty_env st)
      (λ s. types_are_itself s sc binds empty_env st (alike_nothing (ValuesAlike s) TypesSame)))
      (λ r i. dec_sized sc f at r.0 r.0 r.1 (i r.1.types.stands))
  dec_alike depth sc f (DecPhrase.Datatypes binds at) st h k =
      same_then (λ r. (s : Substitution) → ItselfIn s r.0) DecsAlike (datatypes_of sc reserved_constructors binds st)
      (datatypes_of (in_env f sc) reserved_constructors binds st) _ _
      (datatypes_same sc f reserved_constructors binds st (types_of_seen st.types.stands sc.env f k))
      (given_each (λ s r. ItselfIn s r.0) (datatypes_of sc reserved_constructors binds st)
      (λ s. datatypes_itself s sc reserved_constructors binds st))
      (λ r i. dec_sized sc f at r.0 r.0 r.1 (i r.1.types.stands))
  dec_alike depth sc f (DecPhrase.Replication name long at) st h k =
      both_plain (λ made. Unit {0}) (SeenAlike st.types.stands) DecsAlike (infer_replication sc name long)
      (infer_replication (in_env f sc) name long) _ _ (given_any (infer_replication sc name long))
      (replication_alike st.types.stands sc f name long k) (λ a b _ l. dec_sized sc f at a b st l)
  dec_alike depth sc f (DecPhrase.Exceptions binds at) st h k =
      both_plain (λ made. Unit {0}) (SeenAlike st.types.stands) DecsAlike (exceptions_of sc binds)
      (exceptions_of (in_env f sc) binds) _ _ (given_any (exceptions_of sc binds))
      (exceptions_alike st.types.stands sc f binds k) (λ a b _ l. dec_sized sc f at a b st l)
  dec_alike depth sc f (DecPhrase.Local hidden shown at) st h k =
      both_then (MadeIn Any st) DecAt DecsAlike (infer_dec depth sc hidden st)
      (infer_dec depth (in_env f sc) hidden st) _ _
      (dec_grows Any depth sc hidden st h) (dec_alike depth sc f hidden st h k) (λ d e u g l.
      both_then (λ r. Unit {0}) DecAt DecsAlike (infer_dec depth (under d sc) shown u)
      (infer_dec depth (under e (in_env f sc)) shown u) _ _ (given_any (infer_dec depth (under d sc) shown u))
      (dec_alike depth (under d sc) (modified_by f e) shown u
      (ready_under Any d sc u g.1 (ready_later Any sc st u h g.0))
      (alike_modified (ValuesAlike u.types.stands) TypesSame sc.env f d e (seen_later st u sc.env f g.0.touches k) l))
      (λ a b v _ m. dec_sized sc f at a b v m))
  dec_alike depth sc f (DecPhrase.Open longs at) st h k =
      both_plain (λ made. Unit {0}) (SeenAlike st.types.stands) DecsAlike (infer_open sc longs empty_env)
      (infer_open (in_env f sc) longs empty_env) _ _ (given_any (infer_open sc longs empty_env))
      (open_alike st.types.stands sc f longs k) (λ a b _ l. dec_sized sc f at a b st l)
  dec_alike depth sc f (DecPhrase.Sequence decs at) st h k = decs_alike depth sc f decs st h k
  dec_alike depth sc f (DecPhrase.Structures binds at) st h k = tt

  pub decs_alike : (depth : ℕ) (sc : Scope) (f : Env) (decs : DecPhrases) (st : Progress) → IsReady Any sc st
      → SeenAlike st.types.stands sc.env f
      → Both DecsAlike (infer_decs depth sc decs st) (infer_decs depth (in_env f sc) decs st)
  decs_alike depth sc f DecPhrases.EndOfDecs st h k = (refl, alike_nothing (ValuesAlike st.types.stands) TypesSame)
  decs_alike depth sc f (DecPhrases.Dec dec rest) st h k =
      both_then (MadeIn Any st) DecAt DecsAlike (infer_dec depth sc dec st) (infer_dec depth (in_env f sc) dec st) _ _
      (dec_grows Any depth sc dec st h) (dec_alike depth sc f dec st h k) (λ d e u g l.
      let ready : IsReady Any (under d sc) u = ready_under Any d sc u g.1 (ready_later Any sc st u h g.0) in
      both_then (MadeIn Any u) DecAt DecsAlike (infer_decs depth (under d sc) rest u)
      (infer_decs depth (under e (in_env f sc)) rest u) _ _ (decs_grow Any depth (under d sc) rest u ready)
      (decs_alike depth (under d sc) (modified_by f e) rest u ready
      (alike_modified (ValuesAlike u.types.stands) TypesSame sc.env f d e (seen_later st u sc.env f g.0.touches k) l))
      (λ a b v i m.
      (refl, alike_modified (ValuesAlike v.types.stands) TypesSame d e a b (seen_later u v d e i.0.touches l) m)))
