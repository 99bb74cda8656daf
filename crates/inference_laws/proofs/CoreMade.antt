-- What expressions, matches and declarations make is made of what they are given, and of names that they make.
use Rattle.std.proofs.Common.{◌≡◌, ℕ, zero, suc, List, [], ◌∷◌, ◌++◌, length, drop, refl, ◌∙◌, Option, Some, None, Bool, true, false, ◌||◌, cond, not}
use Rattle.std.specs.Option.{is_some}
use Rattle.sml_trees.specs.declared.name.At.{At}
use Rattle.sml_trees.specs.declared.name.Name.{Name}
use Rattle.sml_trees.specs.declared.name.LongName.{LongName}
use Rattle.semantic_objects.specs.declared.entry.ValueEntry.{ValueEntry}
use Rattle.semantic_objects.specs.declared.entry.VidStatus.TheVariants as status
use Rattle.semantic_objects.specs.Tables.{Table, entry, with_entry}
use Rattle.semantic_objects.specs.Environments.{Env, structures, values, empty_env, modified_by, with_value}
use Rattle.unification.specs.Types.{Ty, State, put}
use Rattle.unification.specs.Closing.{found_in}
use Rattle.bare_phrases.specs.Phrases.{PatPhrase, ExpPhrase, ExpFields, Rules, DecPhrase, DecPhrases}
use Rattle.static_semantics.specs.BasicTypes.{int_ty, string_ty, char_ty, exn_ty, arrow_ty, record_ty, reserved_constructors}
use Rattle.static_semantics.specs.Inferring.{Progress, Scope, under, with_written, gives, name_at, known, unify_at, found_at, is_named, new_variable, Bound, variable_entry, with_bound, under_bound, is_kept, is_too_large, has_too_large, sized_exp, sized_dec}
use Rattle.static_semantics.specs.WrittenVariables.{written_in}
use Rattle.static_semantics.specs.Nonexpansive.{is_nonexpansive}
use Rattle.static_semantics.specs.TypeInference.{infer_ty, new_rigid, listed, as_written, infer_types}
use Rattle.static_semantics.specs.PatternInference.{pat_at, infer_pat}
use Rattle.static_semantics.specs.DatatypeInference.{datatypes_of, infer_replication, exceptions_of}
use Rattle.static_semantics.specs.CoreInference.{exp_at, known_exp, applied, joined, handled, raised, holds_made, within_let, implicit, own_variables, Group, added, is_variable, RecPats, infer_rec_pats, rec_bound, rec_groups, closed_where, closed_variables, closed_groups, left_over, none_left, closed_val, infer_open, infer_exp, infer_exp_fields, infer_match, infer_rules, infer_binds, infer_rec_exps, infer_dec, infer_decs}
use Rattle.static_semantics.specs.Holding.{Given, AllItems, AllRows, ValueHas}
use Rattle.static_semantics.proofs.Holding.{given_then, given_where, given_known, rows_after, has_structures, has_nothing, has_with_value, has_modified, has_found}
use Rattle.static_semantics.proofs.TypesGrow.{given_more}
use Rattle.inference_laws.specs.Nodes.{Nodes, TyOf, StateOf, SchemeOf, FunctionOf, EnvOf, Admits, ScopeOf, IsOf, Makes, IsReadyFor, ExpOf, DecOf, PatOf}
use Rattle.inference_laws.specs.Spelling.{PatSpelt, ExpSpelt, ExpFieldsSpelt, RulesSpelt, DecSpelt, DecsSpelt}
use Rattle.inference_laws.proofs.Nodes.{ty_put, ty_arrow, scheme_closed, FieldsOf, no_fields, field_more, ty_record}
use Rattle.inference_laws.proofs.Making.{plain, after, before, ready_after, ready_same, all_step, all_first, less}
use Rattle.inference_laws.proofs.Unifying.{UnifiedOf, unify_of}
use Rattle.inference_laws.proofs.TypesMade.{ty_of, IsListed, listed_of, state_same, written_of, PlainOf, types_of_binds}
use Rattle.inference_laws.proofs.PatternsMade.{at_state, value_of, instance_state, instance_ty, pat_of}
use Rattle.inference_laws.proofs.DatatypesMade.{items_after, under_of, datatypes_made, replication_of, variable_of, exn_of, exceptions_made}

abbrev pub ExpMade : (List ℕ → Bool) → Scope → Progress → Ty × Progress → Type 0
ExpMade good sc st r = Makes sc.home (IsOf good sc st) st r.1 (ExpOf r)

abbrev pub DecMade : (List ℕ → Bool) → Scope → Progress → Env × Progress → Type 0
DecMade good sc st r = Makes sc.home (IsOf good sc st) st r.1 (DecOf r)

abbrev pub IsReady : (List ℕ → Bool) → Scope → Progress → Type 0
IsReady good sc st = IsReadyFor sc.home (IsOf good sc st) st.names

exp_sized : (good : List ℕ → Bool) (sc : Scope) (st : Progress) (at : At) (r : Ty × Progress) → ExpMade good sc st r
    → Given (ExpMade good sc st) (sized_exp sc at r)
exp_sized good sc st at r h =
    given_where (ExpMade good sc st) (is_too_large (put r.1.types.stands r.0)) 38 sc at (λ u. gives r) h

dec_sized : (good : List ℕ → Bool) (sc : Scope) (st : Progress) (at : At) (r : Env × Progress) → DecMade good sc st r
    → Given (DecMade good sc st) (sized_dec sc at r)
dec_sized good sc st at r h =
    given_where (DecMade good sc st) (has_too_large r.1.types.stands r.0) 38 sc at (λ u. gives r) h

ready_exp : (good : List ℕ → Bool) (sc : Scope) (st : Progress) (r : Ty × Progress) → IsReady good sc st
    → ExpMade good sc st r → IsReady good sc r.1
ready_exp good sc st r h k = ready_after h k (λ q i j. at_state good q sc st r.1 i j.0)

-- ---- steps of expressions

-- what a step gives that makes no names
abbrev StepOf : Progress → Nodes → Ty × Progress → Type 0
StepOf st q r = (r.1.names ≡ st.names) × ExpOf r q

known_made : (good : List ℕ → Bool) (sc : Scope) (long : LongName) (st : Progress) (q : Nodes) → IsOf good sc st q
    → Given (StepOf st q) (known_exp sc long st)
known_made good sc long st q h = given_then (ValueHas (SchemeOf q)) (StepOf st q)
    (known sc long (found_at values long.parts sc.env)) _ (value_of good q sc long h.scope)
    (λ value k. (refl, (instance_state q value.scheme st h.state, instance_ty q value.scheme st k)))

applied_made : (good : List ℕ → Bool) (depth : ℕ) (sc : Scope) (at : At) (function argument : Ty) (st : Progress)
    (q : Nodes) → Admits good q → StateOf q st.types → TyOf q function → TyOf q argument
    → Given (StepOf st q) (applied depth sc at function argument st)
applied_made good depth sc at function argument st q a h k l =
    given_then (UnifiedOf q (new_variable st).1) (StepOf st q)
    (unify_at depth sc at function (arrow_ty argument (new_variable st).0) (new_variable st).1) _
    (unify_of q depth sc at function (arrow_ty argument (new_variable st).0) (new_variable st).1 h k
    (ty_arrow good q argument (new_variable st).0 a l tt)) (λ u i. (i.0, (i.1, tt)))

joined_made : (depth : ℕ) (sc : Scope) (at : At) (ty other : Ty) (st : Progress) (q : Nodes) → StateOf q st.types
    → TyOf q ty → TyOf q other → Given (StepOf st q) (joined depth sc at ty other st)
joined_made depth sc at ty other st q h k l = given_then (UnifiedOf q st) (StepOf st q)
    (unify_at depth sc at ty other st) _ (unify_of q depth sc at ty other st h k l) (λ u i. (i.0, (i.1, k)))

handled_made : (good : List ℕ → Bool) (depth : ℕ) (sc : Scope) (at : At) (ty handler : Ty) (st : Progress) (q : Nodes)
    → Admits good q → StateOf q st.types → TyOf q ty → TyOf q handler
    → Given (StepOf st q) (handled depth sc at ty handler st)
handled_made good depth sc at ty handler st q a h k l = given_then (UnifiedOf q st) (StepOf st q)
    (unify_at depth sc at handler (arrow_ty exn_ty ty) st) _
    (unify_of q depth sc at handler (arrow_ty exn_ty ty) st h l (ty_arrow good q exn_ty ty a (exn_of good q a) k))
    (λ u i. (i.0, (i.1, k)))

raised_made : (good : List ℕ → Bool) (depth : ℕ) (sc : Scope) (at : At) (ty : Ty) (st : Progress) (q : Nodes)
    → Admits good q → StateOf q st.types → TyOf q ty → Given (StepOf st q) (raised depth sc at ty st)
raised_made good depth sc at ty st q a h k = given_then (UnifiedOf q st) (StepOf st q)
    (unify_at depth sc at ty exn_ty st) _ (unify_of q depth sc at ty exn_ty st h k (exn_of good q a))
    (λ u i. (i.0, (i.1, tt)))

let_made : (good : List ℕ → Bool) (sc : Scope) (st : Progress) (at : At) (from to : ℕ) (r : Ty × Progress)
    → ExpMade good sc st r → Given (ExpMade good sc st) (within_let sc at from to r)
let_made good sc st at from to r h =
    given_where (ExpMade good sc st) (holds_made sc.home from to (put r.1.types.stands r.0)) 41 sc at (λ u. gives r) h

-- ---- scopes

bound_env : (q : Nodes) (rows : Bound) (env : Env) → AllRows (TyOf q) rows → EnvOf q env → EnvOf q (with_bound rows env)
bound_env q [] env h k = k
bound_env q (row ∷ rows) env h k = bound_env q rows (with_value row.0 (variable_entry row.1) env) h.1
    (has_with_value (SchemeOf q) (FunctionOf q) row.0 (variable_entry row.1) env (variable_of q row.1 h.0) k)

is_bound : (good : List ℕ → Bool) (q : Nodes) (rows : Bound) (sc : Scope) (st : Progress) → AllRows (TyOf q) rows
    → IsOf good sc st q → IsOf good (under_bound rows sc) st q
is_bound good q rows sc st h k = record {
  scope = record {
    admits = k.scope.admits;
    env = bound_env q rows sc.env h k.scope.env;
    written = k.scope.written;
  };
  state = k.state;
}

is_written : (good : List ℕ → Bool) (q : Nodes) (rows : List (List ℕ × ℕ)) (sc : Scope) (st : Progress)
    → IsOf good sc st q → IsOf good (with_written (as_written rows) sc) st q
is_written good q rows sc st k = record {
  scope = record {
    admits = k.scope.admits;
    env = k.scope.env;
    written = rows_after (TyOf q) (as_written rows) sc.written (written_of q rows) k.scope.written;
  };
  state = k.state;
}

is_under : (good : List ℕ → Bool) (q : Nodes) (sc : Scope) (st : Progress) (r : Env × Progress) → IsOf good sc st q
    → DecOf r q → IsOf good (under r.0 sc) r.1 q
is_under good q sc st r h k = record { scope = under_of good q r.0 sc k.1 h.scope; state = k.0 }

-- ---- the written type variables of a `val`

-- nothing is put in, and no name is made
record IsStill (st : Progress) (r : List (List ℕ × ℕ) × Progress) : Type 0 where
  pub stands : r.1.types.stands ≡ st.types.stands
  pub names : r.1.names ≡ st.names

either_still : (st : Progress) (c : Bool) (a b : List (List ℕ × ℕ) × Progress) → IsStill st a → IsStill st b
    → IsStill st (cond c a b)
either_still st true a b h k = h
either_still st false a b h k = k

implicit_still : (outer : List (List ℕ × Ty)) (texts : List (List ℕ)) (before : List (List ℕ × ℕ)) (st : Progress)
    → IsStill st (implicit outer texts before st)
implicit_still outer [] before st = record { stands = refl; names = refl }
implicit_still outer (text ∷ texts) before st =
    let next : IsStill (new_rigid text st)
    (implicit outer texts (before ++ (text, st.types.next) ∷ []) (new_rigid text st)) =
    implicit_still outer texts (before ++ (text, st.types.next) ∷ []) (new_rigid text st) in
    either_still st (is_named text before || is_named text outer) (implicit outer texts before st)
    (implicit outer texts (before ++ (text, st.types.next) ∷ []) (new_rigid text st))
    (implicit_still outer texts before st) (record { stands = next.stands; names = next.names })

own_still : (sc : Scope) (tyvars : List Name) (rules recs : Rules) (st : Progress)
    → Given (IsStill st) (own_variables sc tyvars rules recs st)
own_still sc tyvars rules recs st =
    given_then (IsListed 0 (length tyvars) st) (IsStill st) (listed sc tyvars [] st) _ (listed_of sc tyvars [] st)
    (λ r k.
    let next : IsStill r.1 (implicit sc.written (written_in rules recs) r.0 r.1) =
    implicit_still sc.written (written_in rules recs) r.0 r.1 in
    record { stands = next.stands ∙ k.stands; names = next.names ∙ k.names })

-- ---- the variables of a `val`

abbrev GroupsOf : Nodes → List Group → Type 0
GroupsOf q groups = AllItems (λ (group : Group). AllRows (TyOf q) group.1) groups

abbrev RecsOf : Nodes → RecPats → Type 0
RecsOf q rows = AllItems (λ (row : Ty × Bound). TyOf q row.0 × AllRows (TyOf q) row.1) rows

rows_drop : {A : Type 0} (R : A → Type 0) (n : ℕ) (rows : Table A) → AllRows R rows → AllRows R (drop n rows)
rows_drop R zero rows h = h
rows_drop R (suc n) [] h = tt
rows_drop R (suc n) (row ∷ rows) h = rows_drop R n rows h.1

abbrev RecPatsOf : Progress → Nodes → RecPats × Progress → Type 0
RecPatsOf st q r = (r.1.names ≡ st.names) × StateOf q r.1.types × RecsOf q r.0

rec_pats_of : (good : List ℕ → Bool) (q : Nodes) (depth : ℕ) (sc : Scope) (rules : Rules) (made : RecPats)
    (bound : Bound) (st : Progress) → RulesSpelt good rules → IsOf good sc st q → RecsOf q made
    → AllRows (TyOf q) bound → Given (RecPatsOf st q) (infer_rec_pats depth sc rules made bound st)
rec_pats_of good q depth sc Rules.EndOfRules made bound st p h k l = (refl, h.state, k)
rec_pats_of good q depth sc (Rules.Rule pat exp rest) made bound st p h k l =
    given_then (PatOf q st) (RecPatsOf st q) (infer_pat depth sc pat bound st) _
    (pat_of good q depth sc pat bound st p.0 h l) (λ r i.
    given_where (RecPatsOf st q) (not (is_variable sc.env pat)) 34 sc (pat_at pat) _
    (given_more (RecPatsOf r.2 q) (RecPatsOf st q)
    (infer_rec_pats depth sc rest (made ++ (r.0, added bound r.1) ∷ []) r.1 r.2)
    (λ v j. (j.0 ∙ i.names, j.1, j.2))
    (rec_pats_of good q depth sc rest (made ++ (r.0, added bound r.1) ∷ []) r.1 r.2 p.2
    (at_state good q sc st r.2 h i.state)
    (items_after (λ (row : Ty × Bound). TyOf q row.0 × AllRows (TyOf q) row.1) made ((r.0, added bound r.1) ∷ []) k
    ((i.ty, rows_drop (TyOf q) (length bound) r.1 i.bound), tt)) i.bound)))

rec_bound_of : (q : Nodes) (rows : RecPats) → RecsOf q rows → AllRows (TyOf q) (rec_bound rows)
rec_bound_of q [] h = tt
rec_bound_of q (row ∷ rows) h = rows_after (TyOf q) row.1 (rec_bound rows) h.0.1 (rec_bound_of q rows h.1)

rec_groups_of : (q : Nodes) (env : Env) (rules : Rules) (rows : RecPats) → RecsOf q rows
    → GroupsOf q (rec_groups env rules rows)
rec_groups_of q env Rules.EndOfRules rows h = tt
rec_groups_of q env (Rules.Rule pat exp rest) [] h = tt
rec_groups_of q env (Rules.Rule pat exp rest) (row ∷ rows) h = (h.0.1, rec_groups_of q env rest rows h.1)

-- ---- closing

closed_of : (q : Nodes) (closes : Bool) (kept : ℕ → Bool) (s : State) (ty : Ty) → StateOf q s → TyOf q ty
    → SchemeOf q (closed_where closes kept s ty)
closed_of q true kept s ty h k = scheme_closed q (found_in kept (put s.stands ty) []) s.marks (put s.stands ty)
    (ty_put q s.stands ty h k)
closed_of q false kept s ty h k = scheme_closed q [] s.marks (put s.stands ty) (ty_put q s.stands ty h k)

variables_made : (q : Nodes) (closes : Bool) (kept : ℕ → Bool) (s : State) (rows : Bound) (env : Env) → StateOf q s
    → AllRows (TyOf q) rows → EnvOf q env → EnvOf q (closed_variables closes kept s rows env)
variables_made q closes kept s [] env h k l = l
variables_made q closes kept s (row ∷ rows) env h k l =
    let value : ValueEntry = record { status = status.Variable; scheme = closed_where closes kept s row.1 } in
    variables_made q closes kept s rows (with_value row.0 value env) h k.1
    (has_with_value (SchemeOf q) (FunctionOf q) row.0 value env (closed_of q closes kept s row.1 h k.0) l)

groups_made : (q : Nodes) (kept : ℕ → Bool) (s : State) (groups : List Group) (env : Env) → StateOf q s
    → GroupsOf q groups → EnvOf q env → EnvOf q (closed_groups kept s groups env)
groups_made q kept s [] env h k l = l
groups_made q kept s (group ∷ groups) env h k l = groups_made q kept s groups
    (closed_variables group.0 kept s group.1 env) h k.1 (variables_made q group.0 kept s group.1 env h k.0 l)

none_left_in : {A : Type 0} (R : A → Type 0) (sc : Scope) (at : At) (x : A) (o : Option (List ℕ)) → R x
    → Given R (none_left sc at x o)
none_left_in R sc at x None h = h
none_left_in R sc at x (Some text) h = tt

abbrev EndOf : Progress → Nodes → Env × Progress → Type 0
EndOf st q r = (r.1.names ≡ st.names) × DecOf r q

val_closed : (q : Nodes) (sc : Scope) (at : At) (kept : ℕ → Bool) (own : List (List ℕ × ℕ)) (groups : List Group)
    (st : Progress) → StateOf q st.types → GroupsOf q groups
    → Given (EndOf st q) (closed_val sc at kept own groups st)
val_closed q sc at kept own groups st h k =
    none_left_in (EndOf st q) sc at (closed_groups kept st.types groups empty_env, st)
    (left_over kept st.types (closed_groups kept st.types groups empty_env) own)
    (refl, (h, groups_made q kept st.types groups empty_env h k (has_nothing (SchemeOf q) (FunctionOf q))))

-- ---- `open`

open_of : (good : List ℕ → Bool) (q : Nodes) (sc : Scope) (longs : List LongName) (made : Env) → ScopeOf good sc q
    → EnvOf q made → Given (EnvOf q) (infer_open sc longs made)
open_of good q sc [] made h k = k
open_of good q sc (long ∷ longs) made h k = given_then (EnvOf q) (EnvOf q)
    (known sc long (found_at structures long.parts sc.env)) _
    (given_known (EnvOf q) sc long (found_at structures long.parts sc.env)
    (has_found (SchemeOf q) (FunctionOf q) (EnvOf q) structures (has_structures (SchemeOf q) (FunctionOf q))
    long.parts sc.env h.env))
    (λ env l. open_of good q sc longs (modified_by made env) h
    (has_modified (SchemeOf q) (FunctionOf q) made env k l))

-- ---- the phrases

-- what a match, the bindings of a `val`, are given besides
abbrev FromRules : (List ℕ → Bool) → Scope → Progress → Ty → Ty → Nodes → Type 0
FromRules good sc st from to q = IsOf good sc st q × TyOf q from × TyOf q to

abbrev FromBinds : (List ℕ → Bool) → Scope → Progress → Bound → List Group → Nodes → Type 0
FromBinds good sc st bound groups q = IsOf good sc st q × AllRows (TyOf q) bound × GroupsOf q groups

abbrev BindsOf : Bound × List Group × Progress → Nodes → Type 0
BindsOf r q = StateOf q r.2.types × AllRows (TyOf q) r.0 × GroupsOf q r.1

abbrev FromRecs : (List ℕ → Bool) → Scope → Progress → RecPats → Nodes → Type 0
FromRecs good sc st rows q = IsOf good sc st q × RecsOf q rows

abbrev FromFields : (List ℕ → Bool) → Scope → Progress → Table Ty → Nodes → Type 0
FromFields good sc st made q = IsOf good sc st q × FieldsOf good q made

abbrev FieldsMade : (List ℕ → Bool) → Table Ty × Progress → Nodes → Type 0
FieldsMade good r q = StateOf q r.1.types × FieldsOf good q r.0

-- a pattern makes no names
pat_made : (good : List ℕ → Bool) (depth : ℕ) (sc : Scope) (pat : PatPhrase) (bound : Bound) (st u : Progress)
    (home : List ℕ) (From To : Nodes → Type 0) → PatSpelt good pat → IsReadyFor home From st.names
    → Makes home From st u To → ((q : Nodes) → From q → To q → IsOf good sc u q × AllRows (TyOf q) bound)
    → Given (λ r. Makes home From st r.2 (λ q. To q × PatOf q u r)) (infer_pat depth sc pat bound u)
pat_made good depth sc pat bound st u home From To p h k f =
    all_step home From To st u (λ r. r.2) (λ r q. PatOf q u r) (infer_pat depth sc pat bound u) h k (λ q i j.
    given_more (PatOf q u) (λ r. (r.2.names ≡ u.names) × PatOf q u r) (infer_pat depth sc pat bound u)
    (λ r l. (l.names, l)) (pat_of good q depth sc pat bound u p (f q i j).0 (f q i j).1))

mutual
  pub exp_made : (good : List ℕ → Bool) (depth : ℕ) (sc : Scope) (exp : ExpPhrase) (st : Progress) → ExpSpelt good exp
      → IsReady good sc st → Given (ExpMade good sc st) (infer_exp depth sc exp st)
  exp_made good depth sc (ExpPhrase.Int value at) st p h = exp_sized good sc st at (int_ty, st)
      (plain refl (λ q i. (i.state, (i.scope.admits.int, tt))))
  exp_made good depth sc (ExpPhrase.Str value at) st p h = exp_sized good sc st at (string_ty, st)
      (plain refl (λ q i. (i.state, (i.scope.admits.string, tt))))
  exp_made good depth sc (ExpPhrase.Char value at) st p h = exp_sized good sc st at (char_ty, st)
      (plain refl (λ q i. (i.state, (i.scope.admits.char, tt))))
  exp_made good depth sc (ExpPhrase.Long long at) st p h =
      given_then (ExpMade good sc st) (ExpMade good sc st) (known_exp sc long st) _
      (all_first sc.home (IsOf good sc st) st (λ r. r.1) ExpOf (known_exp sc long st) h (known_made good sc long st))
      (λ r k. exp_sized good sc st at r k)
  exp_made good depth sc (ExpPhrase.Record fields at) st p h =
      given_then (λ r. Makes sc.home (FromFields good sc st []) st r.1 (FieldsMade good r)) (ExpMade good sc st)
      (infer_exp_fields depth sc fields [] st) _
      (exp_fields_made good depth sc fields [] st p (λ m l. (h m l, no_fields good _))) (λ r k.
      exp_sized good sc st at (record_ty r.0, r.1)
      (before refl (less k (λ q i j. (j.0, ty_record good q r.0 i.0.scope.admits j.1)))
      (λ q i. (i, no_fields good q))))
  exp_made good depth sc (ExpPhrase.Let dec body at) st p h =
      given_then (DecMade good sc st) (ExpMade good sc st) (infer_dec depth sc dec st) _
      (dec_made good depth sc dec st p.0 h) (λ d k.
      given_then (ExpMade good (under d.0 sc) d.1) (ExpMade good sc st) (infer_exp depth (under d.0 sc) body d.1) _
      (exp_made good depth (under d.0 sc) body d.1 p.1 (ready_after h k (λ q i j. is_under good q sc st d i j))) (λ r l.
      given_then (ExpMade good sc st) (ExpMade good sc st) (within_let sc at st.names d.1.names r) _
      (let_made good sc st at st.names d.1.names r
      (less (after k l (λ q i j. is_under good q sc st d i j)) (λ q i j. j.1))) (λ v m.
      exp_sized good sc st at v m)))
  exp_made good depth sc (ExpPhrase.App function argument at) st p h =
      given_then (ExpMade good sc st) (ExpMade good sc st) (infer_exp depth sc function st) _
      (exp_made good depth sc function st p.0 h) (λ f k.
      given_then (ExpMade good sc f.1) (ExpMade good sc st) (infer_exp depth sc argument f.1) _
      (exp_made good depth sc argument f.1 p.1 (ready_exp good sc st f h k)) (λ a l.
      given_then (λ r. Makes sc.home (IsOf good sc st) st r.1 (λ q. (ExpOf f q × ExpOf a q) × ExpOf r q))
      (ExpMade good sc st) (applied depth sc at f.0 a.0 a.1) _
      (all_step sc.home (IsOf good sc st) (λ q. ExpOf f q × ExpOf a q) st a.1 (λ r. r.1) ExpOf
      (applied depth sc at f.0 a.0 a.1) h (after k l (λ q i j. at_state good q sc st f.1 i j.0)) (λ q i j.
      applied_made good depth sc at f.0 a.0 a.1 q i.scope.admits j.1.0 j.0.1 j.1.1)) (λ r m.
      exp_sized good sc st at r (less m (λ q i j. j.1)))))
  exp_made good depth sc (ExpPhrase.Typed exp ty at) st p h =
      given_then (ExpMade good sc st) (ExpMade good sc st) (infer_exp depth sc exp st) _
      (exp_made good depth sc exp st p.0 h) (λ e k.
      given_then (λ t. Makes sc.home (IsOf good sc st) st e.1 (λ q. ExpOf e q × TyOf q t)) (ExpMade good sc st)
      (infer_ty sc ty) _
      (all_step sc.home (IsOf good sc st) (ExpOf e) st e.1 (λ t. e.1) (λ t q. TyOf q t) (infer_ty sc ty) h k (λ q i j.
      given_more (TyOf q) (λ t. (e.1.names ≡ e.1.names) × TyOf q t) (infer_ty sc ty) (λ t l. (refl, l))
      (ty_of good q sc ty p.1 i.scope))) (λ t l.
      given_then (λ r. Makes sc.home (IsOf good sc st) st r.1 (λ q. (ExpOf e q × TyOf q t) × ExpOf r q))
      (ExpMade good sc st) (joined depth sc at e.0 t e.1) _
      (all_step sc.home (IsOf good sc st) (λ q. ExpOf e q × TyOf q t) st e.1 (λ r. r.1) ExpOf
      (joined depth sc at e.0 t e.1) h l (λ q i j. joined_made depth sc at e.0 t e.1 q j.0.0 j.0.1 j.1)) (λ r m.
      exp_sized good sc st at r (less m (λ q i j. j.1)))))
  exp_made good depth sc (ExpPhrase.Handle exp rules at) st p h =
      given_then (ExpMade good sc st) (ExpMade good sc st) (infer_exp depth sc exp st) _
      (exp_made good depth sc exp st p.0 h) (λ e k.
      given_then (ExpMade good sc e.1) (ExpMade good sc st) (infer_match depth sc rules e.1) _
      (match_made good depth sc rules e.1 p.1 (ready_exp good sc st e h k)) (λ a l.
      given_then (λ r. Makes sc.home (IsOf good sc st) st r.1 (λ q. (ExpOf e q × ExpOf a q) × ExpOf r q))
      (ExpMade good sc st) (handled depth sc at e.0 a.0 a.1) _
      (all_step sc.home (IsOf good sc st) (λ q. ExpOf e q × ExpOf a q) st a.1 (λ r. r.1) ExpOf
      (handled depth sc at e.0 a.0 a.1) h (after k l (λ q i j. at_state good q sc st e.1 i j.0)) (λ q i j.
      handled_made good depth sc at e.0 a.0 a.1 q i.scope.admits j.1.0 j.0.1 j.1.1)) (λ r m.
      exp_sized good sc st at r (less m (λ q i j. j.1)))))
  exp_made good depth sc (ExpPhrase.Raise exp at) st p h =
      given_then (ExpMade good sc st) (ExpMade good sc st) (infer_exp depth sc exp st) _
      (exp_made good depth sc exp st p h) (λ e k.
      given_then (λ r. Makes sc.home (IsOf good sc st) st r.1 (λ q. ExpOf e q × ExpOf r q))
      (ExpMade good sc st) (raised depth sc at e.0 e.1) _
      (all_step sc.home (IsOf good sc st) (ExpOf e) st e.1 (λ r. r.1) ExpOf (raised depth sc at e.0 e.1) h k (λ q i j.
      raised_made good depth sc at e.0 e.1 q i.scope.admits j.0 j.1)) (λ r m.
      exp_sized good sc st at r (less m (λ q i j. j.1))))
  exp_made good depth sc (ExpPhrase.Fn rules at) st p h =
      given_then (ExpMade good sc st) (ExpMade good sc st) (infer_match depth sc rules st) _
      (match_made good depth sc rules st p h) (λ r k. exp_sized good sc st at r k)

  pub exp_fields_made : (good : List ℕ → Bool) (depth : ℕ) (sc : Scope) (fields : ExpFields) (made : Table Ty)
      (st : Progress) → ExpFieldsSpelt good fields → IsReadyFor sc.home (FromFields good sc st made) st.names
      → Given (λ r. Makes sc.home (FromFields good sc st made) st r.1 (FieldsMade good r))
      (infer_exp_fields depth sc fields made st)
  exp_fields_made good depth sc ExpFields.EndOfFields made st p h = plain refl (λ q i. (i.0.state, i.1))
  exp_fields_made good depth sc (ExpFields.Field label exp rest) made st p h =
      let Whole : Table Ty × Progress → Type 0 =
      λ r. Makes sc.home (FromFields good sc st made) st r.1 (FieldsMade good r) in
      given_where Whole (is_some (entry label.text made)) 40 sc (name_at label) _
      (given_then (ExpMade good sc st) Whole (infer_exp depth sc exp st) _
      (exp_made good depth sc exp st p.1 (λ m l. (h m l).0)) (λ r k.
      let k2 : Makes sc.home (FromFields good sc st made) st r.1 (ExpOf r) = before refl k (λ q i. i.0) in
      let Next : Nodes → Type 0 = FromFields good sc r.1 (with_entry label.text r.0 made) in
      let next : (q : Nodes) → FromFields good sc st made q → ExpOf r q → Next q =
      λ q i j. (at_state good q sc st r.1 i.0 j.0, field_more good q label.text r.0 made p.0 j.1 i.1) in
      given_more (λ v. Makes sc.home Next r.1 v.1 (FieldsMade good v)) Whole
      (infer_exp_fields depth sc rest (with_entry label.text r.0 made) r.1)
      (λ v l. less (after k2 l next) (λ q i j. j.1))
      (exp_fields_made good depth sc rest (with_entry label.text r.0 made) r.1 p.2 (ready_after h k2 next))))

  pub match_made : (good : List ℕ → Bool) (depth : ℕ) (sc : Scope) (rules : Rules) (st : Progress)
      → RulesSpelt good rules → IsReady good sc st → Given (ExpMade good sc st) (infer_match depth sc rules st)
  match_made good depth sc Rules.EndOfRules st p h =
      plain refl (λ q i. (
        i.state,
        ty_arrow good q (new_variable st).0 (new_variable (new_variable st).1).0
            i.scope.admits tt tt,
      ))
  match_made good depth sc (Rules.Rule pat exp rest) st p h =
      given_then (λ a. Makes sc.home (IsOf good sc st) st a.2 (λ q. IsOf good sc st q × PatOf q st a))
      (ExpMade good sc st)
      (infer_pat depth sc pat [] st) _
      (pat_made good depth sc pat [] st st sc.home (IsOf good sc st) (IsOf good sc st) p.0 h (plain refl (λ q i. i))
      (λ q i j. (j, tt))) (λ a k.
      let inner : Scope = under_bound a.1 sc in
      let in_arm : (q : Nodes) → IsOf good sc st q → IsOf good sc st q × PatOf q st a → IsOf good inner a.2 q =
      λ q i j. is_bound good q a.1 sc a.2 j.1.bound (at_state good q sc st a.2 i j.1.state) in
      given_then (ExpMade good inner a.2) (ExpMade good sc st) (infer_exp depth inner exp a.2) _
      (exp_made good depth inner exp a.2 p.1 (ready_after h k in_arm)) (λ e l.
      let both = after k l in_arm in
      let Next : Nodes → Type 0 = FromRules good sc e.1 a.0 e.0 in
      let next : (q : Nodes) → IsOf good sc st q → (IsOf good sc st q × PatOf q st a) × ExpOf e q → Next q =
      λ q i j. (at_state good q sc st e.1 i j.1.0, j.0.1.ty, j.1.1) in
      given_then (λ u. Makes sc.home Next e.1 u (λ q. StateOf q u.types)) (ExpMade good sc st)
      (infer_rules depth sc a.0 e.0 rest e.1) _
      (rules_made good depth sc a.0 e.0 rest e.1 p.2 (ready_after h both next)) (λ u m.
      less (after both m next) (λ q i j. (j.1, ty_arrow good q a.0 e.0 i.scope.admits j.0.0.1.ty j.0.1.1)))))

  pub rules_made : (good : List ℕ → Bool) (depth : ℕ) (sc : Scope) (from to : Ty) (rules : Rules) (st : Progress)
      → RulesSpelt good rules → IsReadyFor sc.home (FromRules good sc st from to) st.names
      → Given (λ u. Makes sc.home (FromRules good sc st from to) st u (λ q. StateOf q u.types))
      (infer_rules depth sc from to rules st)
  rules_made good depth sc from to Rules.EndOfRules st p h = plain refl (λ q i. i.0.state)
  rules_made good depth sc from to (Rules.Rule pat exp rest) st p h =
      let From : Nodes → Type 0 = FromRules good sc st from to in
      let Whole : Progress → Type 0 = λ u. Makes sc.home From st u (λ q. StateOf q u.types) in
      given_then (λ a. Makes sc.home From st a.2 (λ q. From q × PatOf q st a)) Whole (infer_pat depth sc pat [] st) _
      (pat_made good depth sc pat [] st st sc.home From From p.0 h (plain refl (λ q i. i)) (λ q i j. (j.0, tt))) (λ a k.
      given_then (λ s. Makes sc.home From st s (λ q. (From q × PatOf q st a) × StateOf q s.types)) Whole
      (unify_at depth sc (pat_at pat) a.0 from a.2) _
      (all_step sc.home From (λ q. From q × PatOf q st a) st a.2 (λ s. s) (λ s q. StateOf q s.types)
      (unify_at depth sc (pat_at pat) a.0 from a.2) h k (λ q i j.
      unify_of q depth sc (pat_at pat) a.0 from a.2 j.1.state j.1.ty i.1)) (λ s l.
      let inner : Scope = under_bound a.1 sc in
      let in_arm : (q : Nodes) → From q → (From q × PatOf q st a) × StateOf q s.types → IsOf good inner s q =
      λ q i j. is_bound good q a.1 sc s j.0.1.bound (at_state good q sc st s i.0 j.1) in
      given_then (ExpMade good inner s) Whole (infer_exp depth inner exp s) _
      (exp_made good depth inner exp s p.1 (ready_after h l in_arm)) (λ e m.
      let R : Nodes → Type 0 = λ q. ((From q × PatOf q st a) × StateOf q s.types) × ExpOf e q in
      let both : Makes sc.home From st e.1 R = after l m in_arm in
      given_then (λ u. Makes sc.home From st u (λ q. R q × StateOf q u.types)) Whole
      (unify_at depth sc (exp_at exp) e.0 to e.1) _
      (all_step sc.home From R st e.1 (λ u. u) (λ u q. StateOf q u.types) (unify_at depth sc (exp_at exp) e.0 to e.1) h
      both (λ q i j. unify_of q depth sc (exp_at exp) e.0 to e.1 j.1.0 j.1.1 i.2)) (λ u n.
      let Next : Nodes → Type 0 = FromRules good sc u from to in
      let next : (q : Nodes) → From q → R q × StateOf q u.types → Next q =
      λ q i j. (at_state good q sc st u i.0 j.1, i.1, i.2) in
      given_more (λ v. Makes sc.home Next u v (λ q. StateOf q v.types)) Whole (infer_rules depth sc from to rest u)
      (λ v o. less (after n o next) (λ q i j. j.1))
      (rules_made good depth sc from to rest u p.2 (ready_after h n next))))))

  pub binds_made : (good : List ℕ → Bool) (depth : ℕ) (sc : Scope) (rules : Rules) (bound : Bound) (groups : List Group)
      (st : Progress) → RulesSpelt good rules → IsReadyFor sc.home (FromBinds good sc st bound groups) st.names
      → Given (λ r. Makes sc.home (FromBinds good sc st bound groups) st r.2 (BindsOf r))
      (infer_binds depth sc rules bound groups st)
  binds_made good depth sc Rules.EndOfRules bound groups st p h = plain refl (λ q i. (i.0.state, i.1, i.2))
  binds_made good depth sc (Rules.Rule pat exp rest) bound groups st p h =
      let From : Nodes → Type 0 = FromBinds good sc st bound groups in
      let Whole : Bound × List Group × Progress → Type 0 = λ r. Makes sc.home From st r.2 (BindsOf r) in
      given_then (λ a. Makes sc.home From st a.2 (λ q. From q × PatOf q st a)) Whole (infer_pat depth sc pat bound st) _
      (pat_made good depth sc pat bound st st sc.home From From p.0 h (plain refl (λ q i. i)) (λ q i j. (j.0, j.1)))
      (λ a k.
      let on : (q : Nodes) → From q → From q × PatOf q st a → IsOf good sc a.2 q =
      λ q i j. at_state good q sc st a.2 i.0 j.1.state in
      given_then (ExpMade good sc a.2) Whole (infer_exp depth sc exp a.2) _
      (exp_made good depth sc exp a.2 p.1 (ready_after h k on)) (λ e l.
      let R : Nodes → Type 0 = λ q. (From q × PatOf q st a) × ExpOf e q in
      let both : Makes sc.home From st e.1 R = after k l on in
      given_then (λ u. Makes sc.home From st u (λ q. R q × StateOf q u.types)) Whole
      (unify_at depth sc (pat_at pat) a.0 e.0 e.1) _
      (all_step sc.home From R st e.1 (λ u. u) (λ u q. StateOf q u.types) (unify_at depth sc (pat_at pat) a.0 e.0 e.1) h
      both (λ q i j. unify_of q depth sc (pat_at pat) a.0 e.0 e.1 j.1.0 j.0.1.ty j.1.1)) (λ u m.
      let group : Group = (is_nonexpansive sc.env exp, added bound a.1) in
      let Next : Nodes → Type 0 = FromBinds good sc u a.1 (groups ++ group ∷ []) in
      let next : (q : Nodes) → From q → R q × StateOf q u.types → Next q =
      λ q i j. (
        at_state good q sc st u i.0 j.1,
        j.0.0.1.bound,
        items_after (λ (g : Group). AllRows (TyOf q) g.1) groups (group ∷ []) i.2
            (rows_drop (TyOf q) (length bound) a.1 j.0.0.1.bound, tt),
      ) in
      given_more (λ v. Makes sc.home Next u v.2 (BindsOf v)) Whole
      (infer_binds depth sc rest a.1 (groups ++ group ∷ []) u)
      (λ v n. less (after m n next) (λ q i j. j.1))
      (binds_made good depth sc rest a.1 (groups ++ group ∷ []) u p.2 (ready_after h m next)))))

  pub rec_exps_made : (good : List ℕ → Bool) (depth : ℕ) (sc : Scope) (rules : Rules) (rows : RecPats) (st : Progress)
      → RulesSpelt good rules → IsReadyFor sc.home (FromRecs good sc st rows) st.names
      → Given (λ u. Makes sc.home (FromRecs good sc st rows) st u (λ q. StateOf q u.types))
      (infer_rec_exps depth sc rules rows st)
  rec_exps_made good depth sc Rules.EndOfRules rows st p h = plain refl (λ q i. i.0.state)
  rec_exps_made good depth sc (Rules.Rule pat exp rest) [] st p h = tt
  rec_exps_made good depth sc (Rules.Rule pat exp rest) (row ∷ rows) st p h =
      let From : Nodes → Type 0 = FromRecs good sc st (row ∷ rows) in
      let Whole : Progress → Type 0 = λ u. Makes sc.home From st u (λ q. StateOf q u.types) in
      given_then (ExpMade good sc st) Whole (infer_exp depth sc exp st) _
      (exp_made good depth sc exp st p.1 (λ m l. (h m l).0)) (λ e k.
      let first : Makes sc.home From st e.1 (ExpOf e) = before refl k (λ q i. i.0) in
      given_then (λ u. Makes sc.home From st u (λ q. ExpOf e q × StateOf q u.types)) Whole
      (unify_at depth sc (pat_at pat) row.0 e.0 e.1) _
      (all_step sc.home From (ExpOf e) st e.1 (λ u. u) (λ u q. StateOf q u.types)
      (unify_at depth sc (pat_at pat) row.0 e.0 e.1) h first (λ q i j.
      unify_of q depth sc (pat_at pat) row.0 e.0 e.1 j.0 i.1.0.0 j.1)) (λ u m.
      let Next : Nodes → Type 0 = FromRecs good sc u rows in
      let next : (q : Nodes) → From q → ExpOf e q × StateOf q u.types → Next q =
      λ q i j. (at_state good q sc st u i.0 j.1, i.1.1) in
      given_more (λ v. Makes sc.home Next u v (λ q. StateOf q v.types)) Whole (infer_rec_exps depth sc rest rows u)
      (λ v n. less (after m n next) (λ q i j. j.1))
      (rec_exps_made good depth sc rest rows u p.2 (ready_after h m next))))

  pub dec_made : (good : List ℕ → Bool) (depth : ℕ) (sc : Scope) (dec : DecPhrase) (st : Progress) → DecSpelt good dec
      → IsReady good sc st → Given (DecMade good sc st) (infer_dec depth sc dec st)
  dec_made good depth sc (DecPhrase.Val tyvars rules recs at) st p h =
      let From : Nodes → Type 0 = IsOf good sc st in
      let home : List ℕ = sc.home in
      given_then (IsStill st) (DecMade good sc st) (own_variables sc tyvars rules recs st) _
      (own_still sc tyvars rules recs st) (λ own k.
      let inner : Scope = with_written (as_written own.0) sc in
      let is_inner : (q : Nodes) → From q → (u : Progress) → StateOf q u.types → IsOf good inner u q =
      λ q i u j. is_written good q own.0 sc u (at_state good q sc st u i j) in
      let begins : (q : Nodes) → From q → FromBinds good inner own.1 [] [] q =
      λ q i. (is_inner q i own.1 (state_same q own.1.types st.types.stands k.stands i.state), tt, tt) in
      given_then (λ b. Makes home (FromBinds good inner own.1 [] []) own.1 b.2 (BindsOf b)) (DecMade good sc st)
      (infer_binds depth inner rules [] [] own.1) _
      (binds_made good depth inner rules [] [] own.1 p.0
      (ready_same home From (FromBinds good inner own.1 [] []) st.names own.1.names k.names h begins)) (λ b l.
      let bs : Makes home From st b.2 (BindsOf b) = before k.names l begins in
      let Pats : RecPats × Progress → Nodes → Type 0 = λ r q. StateOf q r.1.types × RecsOf q r.0 in
      given_then (λ r. Makes home From st r.1 (λ q. BindsOf b q × Pats r q)) (DecMade good sc st)
      (infer_rec_pats depth inner recs [] b.0 b.2) _
      (all_step home From (BindsOf b) st b.2 (λ r. r.1) Pats (infer_rec_pats depth inner recs [] b.0 b.2) h bs (λ q i j.
      given_more (RecPatsOf b.2 q) (λ r. (r.1.names ≡ b.2.names) × Pats r q)
      (infer_rec_pats depth inner recs [] b.0 b.2) (λ r n. (n.0, (n.1, n.2)))
      (rec_pats_of good q depth inner recs [] b.0 b.2 p.1 (is_inner q i b.2 j.0) tt j.1))) (λ r m.
      let whole : Scope = under_bound (rec_bound r.0) inner in
      let R : Nodes → Type 0 = λ q. BindsOf b q × Pats r q in
      let Next : Nodes → Type 0 = FromRecs good whole r.1 r.0 in
      let next : (q : Nodes) → From q → R q → Next q =
      λ q i j. (is_bound good q (rec_bound r.0) inner r.1 (rec_bound_of q r.0 j.1.1) (is_inner q i r.1 j.1.0), j.1.1) in
      given_then (λ u. Makes home Next r.1 u (λ q. StateOf q u.types)) (DecMade good sc st)
      (infer_rec_exps depth whole recs r.0 r.1) _
      (rec_exps_made good depth whole recs r.0 r.1 p.1 (ready_after h m next)) (λ u n.
      let all : Makes home From st u (λ q. R q × StateOf q u.types) = after m n next in
      let groups : List Group = b.1 ++ rec_groups sc.env recs r.0 in
      given_then (λ v. Makes home From st v.1 (λ q. (R q × StateOf q u.types) × DecOf v q)) (DecMade good sc st)
      (closed_val sc at (is_kept sc u.types.stands) own.0 groups u) _
      (all_step home From (λ q. R q × StateOf q u.types) st u (λ v. v.1) DecOf
      (closed_val sc at (is_kept sc u.types.stands) own.0 groups u) h all (λ q i j.
      val_closed q sc at (is_kept sc u.types.stands) own.0 groups u j.1
      (items_after (λ (g : Group). AllRows (TyOf q) g.1) b.1 (rec_groups sc.env recs r.0) j.0.0.2
      (rec_groups_of q sc.env recs r.0 j.0.1.1)))) (λ v o.
      dec_sized good sc st at v (less o (λ q i j. j.1)))))))
  dec_made good depth sc (DecPhrase.Types binds at) st p h =
      given_then (DecMade good sc st) (DecMade good sc st) (infer_types sc binds empty_env st) _
      (all_first sc.home (IsOf good sc st) st (λ r. r.1) DecOf (infer_types sc binds empty_env st) h (λ q i.
      given_more (PlainOf q st) (EndOf st q) (infer_types sc binds empty_env st) (λ r j. (j.0, (j.1, j.2)))
      (types_of_binds good q sc binds empty_env st p i (has_nothing (SchemeOf q) (FunctionOf q)))))
      (λ r k. dec_sized good sc st at r k)
  dec_made good depth sc (DecPhrase.Datatypes binds at) st p h =
      given_then (DecMade good sc st) (DecMade good sc st) (datatypes_of sc reserved_constructors binds st) _
      (datatypes_made good sc reserved_constructors binds st p h) (λ r k. dec_sized good sc st at r k)
  dec_made good depth sc (DecPhrase.Replication name long at) st p h =
      given_then (λ made. DecMade good sc st (made, st)) (DecMade good sc st) (infer_replication sc name long) _
      (all_first sc.home (IsOf good sc st) st (λ made. st) (λ made. DecOf (made, st)) (infer_replication sc name long) h
      (λ q i. given_more (EnvOf q) (λ made. EndOf st q (made, st)) (infer_replication sc name long)
      (λ made j. (refl, (i.state, j))) (replication_of good q sc name long i.scope)))
      (λ made k. dec_sized good sc st at (made, st) k)
  dec_made good depth sc (DecPhrase.Exceptions binds at) st p h =
      given_then (λ made. DecMade good sc st (made, st)) (DecMade good sc st) (exceptions_of sc binds) _
      (all_first sc.home (IsOf good sc st) st (λ made. st) (λ made. DecOf (made, st)) (exceptions_of sc binds) h
      (λ q i. given_more (EnvOf q) (λ made. EndOf st q (made, st)) (exceptions_of sc binds)
      (λ made j. (refl, (i.state, j))) (exceptions_made good q sc binds p i.scope)))
      (λ made k. dec_sized good sc st at (made, st) k)
  dec_made good depth sc (DecPhrase.Local hidden shown at) st p h =
      given_then (DecMade good sc st) (DecMade good sc st) (infer_dec depth sc hidden st) _
      (dec_made good depth sc hidden st p.0 h) (λ d k.
      given_then (DecMade good (under d.0 sc) d.1) (DecMade good sc st) (infer_dec depth (under d.0 sc) shown d.1) _
      (dec_made good depth (under d.0 sc) shown d.1 p.1 (ready_after h k (λ q i j. is_under good q sc st d i j)))
      (λ r l.
      dec_sized good sc st at r (less (after k l (λ q i j. is_under good q sc st d i j)) (λ q i j. j.1))))
  dec_made good depth sc (DecPhrase.Open longs at) st p h =
      given_then (λ made. DecMade good sc st (made, st)) (DecMade good sc st) (infer_open sc longs empty_env) _
      (all_first sc.home (IsOf good sc st) st (λ made. st) (λ made. DecOf (made, st)) (infer_open sc longs empty_env) h
      (λ q i. given_more (EnvOf q) (λ made. EndOf st q (made, st)) (infer_open sc longs empty_env)
      (λ made j. (refl, (i.state, j)))
      (open_of good q sc longs empty_env i.scope (has_nothing (SchemeOf q) (FunctionOf q)))))
      (λ made k. dec_sized good sc st at (made, st) k)
  dec_made good depth sc (DecPhrase.Sequence decs at) st p h = decs_made good depth sc decs st p h
  dec_made good depth sc (DecPhrase.Structures binds at) st p h = tt

  pub decs_made : (good : List ℕ → Bool) (depth : ℕ) (sc : Scope) (decs : DecPhrases) (st : Progress)
      → DecsSpelt good decs → IsReady good sc st → Given (DecMade good sc st) (infer_decs depth sc decs st)
  decs_made good depth sc DecPhrases.EndOfDecs st p h =
      plain refl (λ q i. (i.state, has_nothing (SchemeOf q) (FunctionOf q)))
  decs_made good depth sc (DecPhrases.Dec dec rest) st p h =
      given_then (DecMade good sc st) (DecMade good sc st) (infer_dec depth sc dec st) _
      (dec_made good depth sc dec st p.0 h) (λ d k.
      given_then (DecMade good (under d.0 sc) d.1) (DecMade good sc st) (infer_decs depth (under d.0 sc) rest d.1) _
      (decs_made good depth (under d.0 sc) rest d.1 p.1 (ready_after h k (λ q i j. is_under good q sc st d i j)))
      (λ v l.
      less (after k l (λ q i j. is_under good q sc st d i j))
      (λ q i j. (j.1.0, has_modified (SchemeOf q) (FunctionOf q) d.0 v.0 j.0.1 j.1.1))))
