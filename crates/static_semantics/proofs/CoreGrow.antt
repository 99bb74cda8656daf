-- Expressions, matches and declarations: states grow, and types and environments stay among new variables and those of
-- the scope.
use Rattle.std.proofs.Common.{ℕ, zero, suc, List, [], ◌∷◌, ◌++◌, length, drop, Option, Some, None, Bool, true, false, ◌||◌, cond, not}
use Rattle.std.specs.Option.{is_some}
use Rattle.sml_trees.specs.declared.name.At.{At}
use Rattle.sml_trees.specs.declared.name.Name.{Name}
use Rattle.sml_trees.specs.declared.name.LongName.{LongName}
use Rattle.semantic_objects.specs.declared.entry.ValueEntry.{ValueEntry}
use Rattle.semantic_objects.specs.declared.entry.VidStatus.TheVariants as status
use Rattle.semantic_objects.specs.Tables.{Table, entry, with_entry}
use Rattle.semantic_objects.specs.Environments.{Env, structures, values, empty_env, modified_by, with_value}
use Rattle.unification.specs.Types.{Ty, State, put}
use Rattle.unification.specs.Fitting.{IsFit}
use Rattle.unification.specs.Closing.{found_in}
use Rattle.bare_phrases.specs.Phrases.{ExpPhrase, ExpFields, Rules, DecPhrase, DecPhrases}
use Rattle.static_semantics.specs.BasicTypes.{int_ty, string_ty, char_ty, exn_ty, arrow_ty, record_ty, reserved_constructors}
use Rattle.static_semantics.specs.Inferring.{Progress, Scope, under, with_written, gives, name_at, known, unify_at, found_at, is_named, new_variable, Bound, variable_entry, with_bound, under_bound, is_kept, is_too_large, has_too_large, sized_exp, sized_dec}
use Rattle.static_semantics.specs.WrittenVariables.{written_in}
use Rattle.static_semantics.specs.Nonexpansive.{is_nonexpansive}
use Rattle.static_semantics.specs.TypeInference.{infer_ty, new_rigid, listed, as_written, infer_types}
use Rattle.static_semantics.specs.PatternInference.{pat_at, infer_pat}
use Rattle.static_semantics.specs.DatatypeInference.{datatypes_of, infer_replication, exceptions_of}
use Rattle.static_semantics.specs.CoreInference.{exp_at, known_exp, applied, joined, handled, raised, holds_made, within_let, implicit, own_variables, Group, added, is_variable, RecPats, infer_rec_pats, rec_bound, rec_groups, closed_where, closed_variables, closed_groups, left_over, none_left, closed_val, infer_open, infer_exp, infer_exp_fields, infer_match, infer_rules, infer_binds, infer_rec_exps, infer_dec, infer_decs}
use Rattle.static_semantics.specs.Holding.{Given, AllItems, AllRows, ValueHas}
use Rattle.static_semantics.specs.Growing.{TyIn, SchemeIn, FunctionIn, EnvIn, ScopeIn, HasNew, Grows, IsReady}
use Rattle.static_semantics.proofs.Holding.{given_then, given_where, given_known, rows_with, rows_after, items_more, has_structures, has_nothing, has_with_value, has_modified, has_found}
use Rattle.static_semantics.proofs.Growing.{grows_same, grows_then, new_later, ty_later, env_later, rows_later, ready_later, grows_variable, ty_new, grows_instance, ty_instance, ty_arrow, ty_record, ty_constant, ty_known, scheme_closed, unify_grows}
use Rattle.static_semantics.proofs.TypesGrow.{given_more, ty_grows, NumberIn, ListedIn, MadeIn, one_more, listed_after, listed_grows, written_rows, types_grow}
use Rattle.static_semantics.proofs.PatternsGrow.{PatIn, value_in, pat_grows}
use Rattle.static_semantics.proofs.DatatypesGrow.{ready_under, datatypes_grow, replication_grows, variable_in, exceptions_grow}

-- what an expression gives
abbrev pub ExpIn : (ℕ → Type 0) → Progress → Ty × Progress → Type 0
ExpIn P st r = Grows P st r.1 × TyIn P r.1.types r.0

abbrev pub ExpFieldsIn : (ℕ → Type 0) → Progress → Table Ty × Progress → Type 0
ExpFieldsIn P st r = Grows P st r.1 × AllRows (TyIn P r.1.types) r.0

exp_after : (P : ℕ → Type 0) (st u : Progress) → Grows P st u → (r : Ty × Progress) → ExpIn P u r → ExpIn P st r
exp_after P st u g r h = (grows_then P st u r.1 g h.0, h.1)

exp_sized : (P : ℕ → Type 0) (st : Progress) (sc : Scope) (at : At) (r : Ty × Progress) → ExpIn P st r
    → Given (ExpIn P st) (sized_exp sc at r)
exp_sized P st sc at r h = given_where (ExpIn P st) (is_too_large (put r.1.types.stands r.0)) 38 sc at (λ u. gives r) h

dec_sized : (P : ℕ → Type 0) (st : Progress) (sc : Scope) (at : At) (r : Env × Progress) → MadeIn P st r
    → Given (MadeIn P st) (sized_dec sc at r)
dec_sized P st sc at r h = given_where (MadeIn P st) (has_too_large r.1.types.stands r.0) 38 sc at (λ u. gives r) h

made_after : (P : ℕ → Type 0) (st u : Progress) → Grows P st u → (r : Env × Progress) → MadeIn P u r → MadeIn P st r
made_after P st u g r h = (grows_then P st u r.1 g h.0, h.1)

-- ---- steps of expressions

known_grows : (P : ℕ → Type 0) (sc : Scope) (long : LongName) (st : Progress) → IsReady P sc st
    → Given (ExpIn P st) (known_exp sc long st)
known_grows P sc long st h = given_then (ValueHas (SchemeIn P st.types)) (ExpIn P st)
    (known sc long (found_at values long.parts sc.env)) _ (value_in P st.types sc long h.scope)
    (λ value k. (grows_instance P value.scheme st h.fit h.new, ty_instance P value.scheme st h.fit h.new k))

applied_grows : (P : ℕ → Type 0) (depth : ℕ) (sc : Scope) (at : At) (function argument : Ty) (st : Progress)
    → IsReady P sc st → TyIn P st.types function → TyIn P st.types argument
    → Given (ExpIn P st) (applied depth sc at function argument st)
applied_grows P depth sc at function argument st h k l =
    let u : Progress = (new_variable st).1 in
    let g : Grows P st u = grows_variable P false false st h.fit h.new in
    let t : TyIn P u.types (new_variable st).0 = ty_new P false false st h.fit h.new in
    given_then (Grows P u) (ExpIn P st) (unify_at depth sc at function (arrow_ty argument (new_variable st).0) u) _
    (unify_grows P depth sc at function (arrow_ty argument (new_variable st).0) u g.fit (ty_later P st u function g k)
    (ty_arrow P u.types argument (new_variable st).0 (ty_later P st u argument g l) t)) (λ v i.
    (grows_then P st u v g i, ty_later P u v (new_variable st).0 i t))

joined_grows : (P : ℕ → Type 0) (depth : ℕ) (sc : Scope) (at : At) (ty other : Ty) (st : Progress) → IsFit st.types
    → TyIn P st.types ty → TyIn P st.types other → Given (ExpIn P st) (joined depth sc at ty other st)
joined_grows P depth sc at ty other st h k l = given_then (Grows P st) (ExpIn P st) (unify_at depth sc at ty other st) _
    (unify_grows P depth sc at ty other st h k l) (λ u i. (i, ty_later P st u ty i k))

handled_grows : (P : ℕ → Type 0) (depth : ℕ) (sc : Scope) (at : At) (ty handler : Ty) (st : Progress) → IsFit st.types
    → TyIn P st.types ty → TyIn P st.types handler → Given (ExpIn P st) (handled depth sc at ty handler st)
handled_grows P depth sc at ty handler st h k l =
    given_then (Grows P st) (ExpIn P st) (unify_at depth sc at handler (arrow_ty exn_ty ty) st) _
    (unify_grows P depth sc at handler (arrow_ty exn_ty ty) st h l
    (ty_arrow P st.types exn_ty ty (ty_constant P st.types _) k)) (λ u i. (i, ty_later P st u ty i k))

raised_grows : (P : ℕ → Type 0) (depth : ℕ) (sc : Scope) (at : At) (ty : Ty) (st : Progress) → IsReady P sc st
    → TyIn P st.types ty → Given (ExpIn P st) (raised depth sc at ty st)
raised_grows P depth sc at ty st h k = given_then (Grows P st) (ExpIn P st) (unify_at depth sc at ty exn_ty st) _
    (unify_grows P depth sc at ty exn_ty st h.fit k (ty_constant P st.types _))
    (λ u i. (
      grows_then P st u (new_variable u).1 i (grows_variable P false false u i.fit (new_later P st u i h.new)),
      ty_new P false false u i.fit (new_later P st u i h.new),
    ))

let_grows : (P : ℕ → Type 0) (st : Progress) (sc : Scope) (at : At) (from to : ℕ) (r : Ty × Progress) → ExpIn P st r
    → Given (ExpIn P st) (within_let sc at from to r)
let_grows P st sc at from to r h =
    given_where (ExpIn P st) (holds_made sc.home from to (put r.1.types.stands r.0)) 41 sc at (λ u. gives r) h

-- ---- scopes

bound_in : (P : ℕ → Type 0) (s : State) (rows : Bound) (env : Env) → AllRows (TyIn P s) rows → EnvIn P s env
    → EnvIn P s (with_bound rows env)
bound_in P s [] env h k = k
bound_in P s (row ∷ rows) env h k = bound_in P s rows (with_value row.0 (variable_entry row.1) env) h.1
    (has_with_value (SchemeIn P s) (FunctionIn P s) row.0 (variable_entry row.1) env (variable_in P s row.1 h.0) k)

pub ready_bound : (P : ℕ → Type 0) (rows : Bound) (sc : Scope) (st : Progress) → AllRows (TyIn P st.types) rows
    → IsReady P sc st → IsReady P (under_bound rows sc) st
ready_bound P rows sc st h k = record {
  fit = k.fit;
  new = k.new;
  scope = record { env = bound_in P st.types rows sc.env h k.scope.env; written = k.scope.written };
}

pub ready_written : (P : ℕ → Type 0) (rows : List (List ℕ × ℕ)) (sc : Scope) (st : Progress)
    → AllRows (NumberIn P st.types) rows → IsReady P sc st → IsReady P (with_written (as_written rows) sc) st
ready_written P rows sc st h k = record {
  fit = k.fit;
  new = k.new;
  scope = record {
    env = k.scope.env;
    written = rows_after (TyIn P st.types) (as_written rows) sc.written
        (written_rows P st.types rows h) k.scope.written;
  };
}

-- ---- the written type variables of a `val`

either_list : (R : List (List ℕ × ℕ) × Progress → Type 0) (c : Bool) (a b : List (List ℕ × ℕ) × Progress) → R a → R b
    → R (cond c a b)
either_list R true a b h k = h
either_list R false a b h k = k

implicit_grows : (P : ℕ → Type 0) (outer : List (List ℕ × Ty)) (texts : List (List ℕ)) (before : List (List ℕ × ℕ))
    (st : Progress) → IsFit st.types → HasNew P st.types → AllRows (NumberIn P st.types) before
    → ListedIn P st (implicit outer texts before st)
implicit_grows P outer [] before st h k l = (grows_same P st h, l)
implicit_grows P outer (text ∷ texts) before st h k l =
    let g : ListedIn P st (before ++ (text, st.types.next) ∷ [], new_rigid text st) = one_more P text before st h k l in
    either_list (ListedIn P st) (is_named text before || is_named text outer) (implicit outer texts before st)
    (implicit outer texts (before ++ (text, st.types.next) ∷ []) (new_rigid text st))
    (implicit_grows P outer texts before st h k l)
    (listed_after P st (new_rigid text st) g.0
    (implicit outer texts (before ++ (text, st.types.next) ∷ []) (new_rigid text st))
    (implicit_grows P outer texts (before ++ (text, st.types.next) ∷ []) (new_rigid text st) g.0.fit
    (new_later P st (new_rigid text st) g.0 k) g.1))

pub own_grows : (P : ℕ → Type 0) (sc : Scope) (tyvars : List Name) (rules recs : Rules) (st : Progress)
    → IsReady P sc st
    → Given (ListedIn P st) (own_variables sc tyvars rules recs st)
own_grows P sc tyvars rules recs st h = given_then (ListedIn P st) (ListedIn P st) (listed sc tyvars [] st) _
    (listed_grows P sc tyvars [] st h.fit h.new tt)
    (λ r k. listed_after P st r.1 k.0 (implicit sc.written (written_in rules recs) r.0 r.1)
    (implicit_grows P sc.written (written_in rules recs) r.0 r.1 k.0.fit (new_later P st r.1 k.0 h.new) k.1))

-- ---- the variables of a `val`

abbrev pub GroupIn : (ℕ → Type 0) → State → Group → Type 0
GroupIn P s group = AllRows (TyIn P s) group.1

abbrev pub GroupsIn : (ℕ → Type 0) → State → List Group → Type 0
GroupsIn P s groups = AllItems (GroupIn P s) groups

abbrev pub RecIn : (ℕ → Type 0) → State → Ty × Bound → Type 0
RecIn P s row = TyIn P s row.0 × AllRows (TyIn P s) row.1

abbrev pub BindsIn : (ℕ → Type 0) → Progress → Bound × List Group × Progress → Type 0
BindsIn P st r = Grows P st r.2 × AllRows (TyIn P r.2.types) r.0 × GroupsIn P r.2.types r.1

abbrev pub RecsIn : (ℕ → Type 0) → Progress → RecPats × Progress → Type 0
RecsIn P st r = Grows P st r.1 × AllItems (RecIn P r.1.types) r.0

pub groups_later : (P : ℕ → Type 0) (st u : Progress) (groups : List Group) → Grows P st u → GroupsIn P st.types groups
    → GroupsIn P u.types groups
groups_later P st u groups g h = items_more (GroupIn P st.types) (GroupIn P u.types) groups
    (λ group k. rows_later P st u group.1 g k) h

pub recs_later : (P : ℕ → Type 0) (st u : Progress) (rows : RecPats) → Grows P st u → AllItems (RecIn P st.types) rows
    → AllItems (RecIn P u.types) rows
recs_later P st u rows g h = items_more (RecIn P st.types) (RecIn P u.types) rows
    (λ row k. (ty_later P st u row.0 g k.0, rows_later P st u row.1 g k.1)) h

pub items_after : {A : Type 0} (R : A → Type 0) (first second : List A) → AllItems R first → AllItems R second
    → AllItems R (first ++ second)
items_after R [] second h k = k
items_after R (x ∷ xs) second h k = (h.0, items_after R xs second h.1 k)

rows_drop : {A : Type 0} (R : A → Type 0) (n : ℕ) (rows : Table A) → AllRows R rows → AllRows R (drop n rows)
rows_drop R zero rows h = h
rows_drop R (suc n) [] h = tt
rows_drop R (suc n) (row ∷ rows) h = rows_drop R n rows h.1

pub rec_pats_grow : (P : ℕ → Type 0) (depth : ℕ) (sc : Scope) (rules : Rules) (made : RecPats) (bound : Bound)
    (st : Progress)
    → IsReady P sc st → AllItems (RecIn P st.types) made → AllRows (TyIn P st.types) bound
    → Given (RecsIn P st) (infer_rec_pats depth sc rules made bound st)
rec_pats_grow P depth sc Rules.EndOfRules made bound st h k l = (grows_same P st h.fit, k)
rec_pats_grow P depth sc (Rules.Rule pat exp rest) made bound st h k l =
    given_then (PatIn P st) (RecsIn P st) (infer_pat depth sc pat bound st) _
    (pat_grows P depth sc pat bound st h l) (λ r i.
    given_where (RecsIn P st) (not (is_variable sc.env pat)) 34 sc (pat_at pat) _
    (given_more (RecsIn P r.2) (RecsIn P st)
    (infer_rec_pats depth sc rest (made ++ (r.0, added bound r.1) ∷ []) r.1 r.2)
    (λ q j. (grows_then P st r.2 q.1 i.0 j.0, j.1))
    (rec_pats_grow P depth sc rest (made ++ (r.0, added bound r.1) ∷ []) r.1 r.2 (ready_later P sc st r.2 h i.0)
    (items_after (RecIn P r.2.types) made ((r.0, added bound r.1) ∷ []) (recs_later P st r.2 made i.0 k)
    ((i.1, rows_drop (TyIn P r.2.types) (length bound) r.1 i.2), tt)) i.2)))

pub rec_bound_in : (P : ℕ → Type 0) (s : State) (rows : RecPats) → AllItems (RecIn P s) rows
    → AllRows (TyIn P s) (rec_bound rows)
rec_bound_in P s [] h = tt
rec_bound_in P s (row ∷ rows) h = rows_after (TyIn P s) row.1 (rec_bound rows) h.0.1 (rec_bound_in P s rows h.1)

pub rec_groups_in : (P : ℕ → Type 0) (s : State) (env : Env) (rules : Rules) (rows : RecPats)
    → AllItems (RecIn P s) rows
    → GroupsIn P s (rec_groups env rules rows)
rec_groups_in P s env Rules.EndOfRules rows h = tt
rec_groups_in P s env (Rules.Rule pat exp rest) [] h = tt
rec_groups_in P s env (Rules.Rule pat exp rest) (row ∷ rows) h = (h.0.1, rec_groups_in P s env rest rows h.1)

-- ---- closing

closed_in : (P : ℕ → Type 0) (closes : Bool) (kept : ℕ → Bool) (s : State) (ty : Ty) → IsFit s → TyIn P s ty
    → SchemeIn P s (closed_where closes kept s ty)
closed_in P true kept s ty h k = scheme_closed P s (found_in kept (put s.stands ty) []) s.marks (put s.stands ty)
    (ty_known P s ty h k)
closed_in P false kept s ty h k = scheme_closed P s [] s.marks (put s.stands ty) (ty_known P s ty h k)

variables_in : (P : ℕ → Type 0) (closes : Bool) (kept : ℕ → Bool) (s : State) (rows : Bound) (env : Env) → IsFit s
    → AllRows (TyIn P s) rows → EnvIn P s env → EnvIn P s (closed_variables closes kept s rows env)
variables_in P closes kept s [] env h k l = l
variables_in P closes kept s (row ∷ rows) env h k l =
    let value : ValueEntry = record { status = status.Variable; scheme = closed_where closes kept s row.1 } in
    variables_in P closes kept s rows (with_value row.0 value env) h k.1
    (has_with_value (SchemeIn P s) (FunctionIn P s) row.0 value env (closed_in P closes kept s row.1 h k.0) l)

groups_in : (P : ℕ → Type 0) (kept : ℕ → Bool) (s : State) (groups : List Group) (env : Env) → IsFit s
    → GroupsIn P s groups
    → EnvIn P s env → EnvIn P s (closed_groups kept s groups env)
groups_in P kept s [] env h k l = l
groups_in P kept s (group ∷ groups) env h k l = groups_in P kept s groups
    (closed_variables group.0 kept s group.1 env) h k.1
    (variables_in P group.0 kept s group.1 env h k.0 l)

none_left_in : {A : Type 0} (R : A → Type 0) (sc : Scope) (at : At) (x : A) (o : Option (List ℕ)) → R x
    → Given R (none_left sc at x o)
none_left_in R sc at x None h = h
none_left_in R sc at x (Some text) h = tt

closed_grows : (P : ℕ → Type 0) (sc : Scope) (at : At) (kept : ℕ → Bool) (own : List (List ℕ × ℕ)) (groups : List Group)
    (st : Progress) → IsFit st.types → GroupsIn P st.types groups
    → Given (MadeIn P st) (closed_val sc at kept own groups st)
closed_grows P sc at kept own groups st h k =
    none_left_in (MadeIn P st) sc at (closed_groups kept st.types groups empty_env, st)
    (left_over kept st.types (closed_groups kept st.types groups empty_env) own) (
      grows_same P st h,
      groups_in P kept st.types groups empty_env h k
          (has_nothing (SchemeIn P st.types) (FunctionIn P st.types)),
    )

-- ---- `open`

open_in : (P : ℕ → Type 0) (s : State) (sc : Scope) (longs : List LongName) (made : Env) → ScopeIn P s sc
    → EnvIn P s made
    → Given (EnvIn P s) (infer_open sc longs made)
open_in P s sc [] made h k = k
open_in P s sc (long ∷ longs) made h k = given_then (EnvIn P s) (EnvIn P s)
    (known sc long (found_at structures long.parts sc.env)) _
    (given_known (EnvIn P s) sc long (found_at structures long.parts sc.env)
    (has_found (SchemeIn P s) (FunctionIn P s) (EnvIn P s) structures (has_structures (SchemeIn P s) (FunctionIn P s))
    long.parts sc.env h.env))
    (λ env l. open_in P s sc longs (modified_by made env) h
    (has_modified (SchemeIn P s) (FunctionIn P s) made env k l))

-- ---- the phrases

mutual
  pub exp_grows : (P : ℕ → Type 0) (depth : ℕ) (sc : Scope) (exp : ExpPhrase) (st : Progress) → IsReady P sc st
      → Given (ExpIn P st) (infer_exp depth sc exp st)
  exp_grows P depth sc (ExpPhrase.Int value at) st h = exp_sized P st sc at (int_ty, st)
      (grows_same P st h.fit, ty_constant P st.types _)
  exp_grows P depth sc (ExpPhrase.Str value at) st h = exp_sized P st sc at (string_ty, st)
      (grows_same P st h.fit, ty_constant P st.types _)
  exp_grows P depth sc (ExpPhrase.Char value at) st h = exp_sized P st sc at (char_ty, st)
      (grows_same P st h.fit, ty_constant P st.types _)
  exp_grows P depth sc (ExpPhrase.Long long at) st h = given_then (ExpIn P st) (ExpIn P st) (known_exp sc long st) _
      (known_grows P sc long st h) (λ r k. exp_sized P st sc at r k)
  exp_grows P depth sc (ExpPhrase.Record fields at) st h =
      given_then (ExpFieldsIn P st) (ExpIn P st) (infer_exp_fields depth sc fields [] st) _
      (exp_fields_grow P depth sc fields [] st h tt) (λ r k.
      exp_sized P st sc at (record_ty r.0, r.1) (k.0, ty_record P r.1.types r.0 k.1))
  exp_grows P depth sc (ExpPhrase.Let dec body at) st h =
      given_then (MadeIn P st) (ExpIn P st) (infer_dec depth sc dec st) _ (dec_grows P depth sc dec st h) (λ d k.
      given_then (ExpIn P d.1) (ExpIn P st) (infer_exp depth (under d.0 sc) body d.1) _
      (exp_grows P depth (under d.0 sc) body d.1 (ready_under P d.0 sc d.1 k.1 (ready_later P sc st d.1 h k.0))) (λ r l.
      given_then (ExpIn P st) (ExpIn P st) (within_let sc at st.names d.1.names r) _
      (let_grows P st sc at st.names d.1.names r (exp_after P st d.1 k.0 r l)) (λ q m.
      exp_sized P st sc at q m)))
  exp_grows P depth sc (ExpPhrase.App function argument at) st h =
      given_then (ExpIn P st) (ExpIn P st) (infer_exp depth sc function st) _ (exp_grows P depth sc function st h)
      (λ f k.
      given_then (ExpIn P f.1) (ExpIn P st) (infer_exp depth sc argument f.1) _
      (exp_grows P depth sc argument f.1 (ready_later P sc st f.1 h k.0)) (λ a l.
      given_then (ExpIn P a.1) (ExpIn P st) (applied depth sc at f.0 a.0 a.1) _
      (applied_grows P depth sc at f.0 a.0 a.1 (ready_later P sc st a.1 h (grows_then P st f.1 a.1 k.0 l.0))
      (ty_later P f.1 a.1 f.0 l.0 k.1) l.1) (λ r m.
      exp_sized P st sc at r (exp_after P st a.1 (grows_then P st f.1 a.1 k.0 l.0) r m))))
  exp_grows P depth sc (ExpPhrase.Typed exp ty at) st h =
      given_then (ExpIn P st) (ExpIn P st) (infer_exp depth sc exp st) _ (exp_grows P depth sc exp st h) (λ e k.
      given_then (TyIn P e.1.types) (ExpIn P st) (infer_ty sc ty) _
      (ty_grows P e.1.types sc ty (ready_later P sc st e.1 h k.0).scope) (λ t l.
      given_then (ExpIn P e.1) (ExpIn P st) (joined depth sc at e.0 t e.1) _
      (joined_grows P depth sc at e.0 t e.1 k.0.fit k.1 l) (λ r m.
      exp_sized P st sc at r (exp_after P st e.1 k.0 r m))))
  exp_grows P depth sc (ExpPhrase.Handle exp rules at) st h =
      given_then (ExpIn P st) (ExpIn P st) (infer_exp depth sc exp st) _ (exp_grows P depth sc exp st h) (λ e k.
      given_then (ExpIn P e.1) (ExpIn P st) (infer_match depth sc rules e.1) _
      (match_grows P depth sc rules e.1 (ready_later P sc st e.1 h k.0)) (λ m l.
      given_then (ExpIn P m.1) (ExpIn P st) (handled depth sc at e.0 m.0 m.1) _
      (handled_grows P depth sc at e.0 m.0 m.1 l.0.fit (ty_later P e.1 m.1 e.0 l.0 k.1) l.1) (λ r i.
      exp_sized P st sc at r (exp_after P st m.1 (grows_then P st e.1 m.1 k.0 l.0) r i))))
  exp_grows P depth sc (ExpPhrase.Raise exp at) st h =
      given_then (ExpIn P st) (ExpIn P st) (infer_exp depth sc exp st) _ (exp_grows P depth sc exp st h) (λ e k.
      given_then (ExpIn P e.1) (ExpIn P st) (raised depth sc at e.0 e.1) _
      (raised_grows P depth sc at e.0 e.1 (ready_later P sc st e.1 h k.0) k.1) (λ r l.
      exp_sized P st sc at r (exp_after P st e.1 k.0 r l)))
  exp_grows P depth sc (ExpPhrase.Fn rules at) st h =
      given_then (ExpIn P st) (ExpIn P st) (infer_match depth sc rules st) _ (match_grows P depth sc rules st h)
      (λ r k. exp_sized P st sc at r k)

  pub exp_fields_grow : (P : ℕ → Type 0) (depth : ℕ) (sc : Scope) (fields : ExpFields) (made : Table Ty) (st : Progress)
      → IsReady P sc st → AllRows (TyIn P st.types) made
      → Given (ExpFieldsIn P st) (infer_exp_fields depth sc fields made st)
  exp_fields_grow P depth sc ExpFields.EndOfFields made st h k = (grows_same P st h.fit, k)
  exp_fields_grow P depth sc (ExpFields.Field label exp rest) made st h k =
      given_where (ExpFieldsIn P st) (is_some (entry label.text made)) 40 sc (name_at label) _
      (given_then (ExpIn P st) (ExpFieldsIn P st) (infer_exp depth sc exp st) _ (exp_grows P depth sc exp st h) (λ r l.
      given_more (ExpFieldsIn P r.1) (ExpFieldsIn P st)
      (infer_exp_fields depth sc rest (with_entry label.text r.0 made) r.1)
      (λ q i. (grows_then P st r.1 q.1 l.0 i.0, i.1))
      (exp_fields_grow P depth sc rest (with_entry label.text r.0 made) r.1 (ready_later P sc st r.1 h l.0)
      (rows_with (TyIn P r.1.types) label.text r.0 made l.1 (rows_later P st r.1 made l.0 k)))))

  pub match_grows : (P : ℕ → Type 0) (depth : ℕ) (sc : Scope) (rules : Rules) (st : Progress) → IsReady P sc st
      → Given (ExpIn P st) (infer_match depth sc rules st)
  match_grows P depth sc Rules.EndOfRules st h =
      let u : Progress = (new_variable st).1 in
      let g : Grows P st u = grows_variable P false false st h.fit h.new in
      let i : Grows P u (new_variable u).1 = grows_variable P false false u g.fit (new_later P st u g h.new) in (
        grows_then P st u (new_variable u).1 g i,
        ty_arrow P (new_variable u).1.types (new_variable st).0 (new_variable u).0
            (ty_later P u (new_variable u).1 (new_variable st).0 i (ty_new P false false st h.fit h.new))
            (ty_new P false false u g.fit (new_later P st u g h.new)),
      )
  match_grows P depth sc (Rules.Rule pat exp rest) st h =
      given_then (PatIn P st) (ExpIn P st) (infer_pat depth sc pat [] st) _ (pat_grows P depth sc pat [] st h tt)
      (λ p k.
      given_then (ExpIn P p.2) (ExpIn P st) (infer_exp depth (under_bound p.1 sc) exp p.2) _
      (exp_grows P depth (under_bound p.1 sc) exp p.2
      (ready_bound P p.1 sc p.2 k.2 (ready_later P sc st p.2 h k.0))) (λ e l.
      let g : Grows P st e.1 = grows_then P st p.2 e.1 k.0 l.0 in
      let t : TyIn P e.1.types p.0 = ty_later P p.2 e.1 p.0 l.0 k.1 in
      given_then (Grows P e.1) (ExpIn P st) (infer_rules depth sc p.0 e.0 rest e.1) _
      (rules_grow P depth sc p.0 e.0 rest e.1 (ready_later P sc st e.1 h g) t l.1) (λ u m. (
        grows_then P st e.1 u g m,
        ty_arrow P u.types p.0 e.0 (ty_later P e.1 u p.0 m t) (ty_later P e.1 u e.0 m l.1),
      ))))

  pub rules_grow : (P : ℕ → Type 0) (depth : ℕ) (sc : Scope) (from to : Ty) (rules : Rules) (st : Progress)
      → IsReady P sc st → TyIn P st.types from → TyIn P st.types to
      → Given (Grows P st) (infer_rules depth sc from to rules st)
  rules_grow P depth sc from to Rules.EndOfRules st h k l = grows_same P st h.fit
  rules_grow P depth sc from to (Rules.Rule pat exp rest) st h k l =
      given_then (PatIn P st) (Grows P st) (infer_pat depth sc pat [] st) _ (pat_grows P depth sc pat [] st h tt)
      (λ p i.
      given_then (Grows P p.2) (Grows P st) (unify_at depth sc (pat_at pat) p.0 from p.2) _
      (unify_grows P depth sc (pat_at pat) p.0 from p.2 i.0.fit i.1 (ty_later P st p.2 from i.0 k)) (λ s j.
      let g : Grows P st s = grows_then P st p.2 s i.0 j in
      given_then (ExpIn P s) (Grows P st) (infer_exp depth (under_bound p.1 sc) exp s) _
      (exp_grows P depth (under_bound p.1 sc) exp s
      (ready_bound P p.1 sc s (rows_later P p.2 s p.1 j i.2) (ready_later P sc st s h g))) (λ e m.
      let f : Grows P st e.1 = grows_then P st s e.1 g m.0 in
      given_then (Grows P e.1) (Grows P st) (unify_at depth sc (exp_at exp) e.0 to e.1) _
      (unify_grows P depth sc (exp_at exp) e.0 to e.1 m.0.fit m.1 (ty_later P st e.1 to f l)) (λ u n.
      let v : Grows P st u = grows_then P st e.1 u f n in
      given_more (Grows P u) (Grows P st) (infer_rules depth sc from to rest u) (λ w o. grows_then P st u w v o)
      (rules_grow P depth sc from to rest u (ready_later P sc st u h v) (ty_later P st u from v k)
      (ty_later P st u to v l))))))

  pub binds_grow : (P : ℕ → Type 0) (depth : ℕ) (sc : Scope) (rules : Rules) (bound : Bound) (groups : List Group)
      (st : Progress) → IsReady P sc st → AllRows (TyIn P st.types) bound → GroupsIn P st.types groups
      → Given (BindsIn P st) (infer_binds depth sc rules bound groups st)
  binds_grow P depth sc Rules.EndOfRules bound groups st h k l = (grows_same P st h.fit, k, l)
  binds_grow P depth sc (Rules.Rule pat exp rest) bound groups st h k l =
      given_then (PatIn P st) (BindsIn P st) (infer_pat depth sc pat bound st) _
      (pat_grows P depth sc pat bound st h k) (λ p i.
      given_then (ExpIn P p.2) (BindsIn P st) (infer_exp depth sc exp p.2) _
      (exp_grows P depth sc exp p.2 (ready_later P sc st p.2 h i.0)) (λ e j.
      given_then (Grows P e.1) (BindsIn P st) (unify_at depth sc (pat_at pat) p.0 e.0 e.1) _
      (unify_grows P depth sc (pat_at pat) p.0 e.0 e.1 j.0.fit (ty_later P p.2 e.1 p.0 j.0 i.1) j.1) (λ u m.
      let g : Grows P p.2 u = grows_then P p.2 e.1 u j.0 m in
      let f : Grows P st u = grows_then P st p.2 u i.0 g in
      let group : Group = (is_nonexpansive sc.env exp, added bound p.1) in
      given_more (BindsIn P u) (BindsIn P st) (infer_binds depth sc rest p.1 (groups ++ group ∷ []) u)
      (λ q n. (grows_then P st u q.2 f n.0, n.1, n.2))
      (binds_grow P depth sc rest p.1 (groups ++ group ∷ []) u (ready_later P sc st u h f)
      (rows_later P p.2 u p.1 g i.2)
      (items_after (GroupIn P u.types) groups (group ∷ []) (groups_later P st u groups f l)
      (rows_drop (TyIn P u.types) (length bound) p.1 (rows_later P p.2 u p.1 g i.2), tt))))))

  pub rec_exps_grow : (P : ℕ → Type 0) (depth : ℕ) (sc : Scope) (rules : Rules) (rows : RecPats) (st : Progress)
      → IsReady P sc st → AllItems (RecIn P st.types) rows → Given (Grows P st) (infer_rec_exps depth sc rules rows st)
  rec_exps_grow P depth sc Rules.EndOfRules rows st h k = grows_same P st h.fit
  rec_exps_grow P depth sc (Rules.Rule pat exp rest) [] st h k = tt
  rec_exps_grow P depth sc (Rules.Rule pat exp rest) (row ∷ rows) st h k =
      given_then (ExpIn P st) (Grows P st) (infer_exp depth sc exp st) _ (exp_grows P depth sc exp st h) (λ e i.
      given_then (Grows P e.1) (Grows P st) (unify_at depth sc (pat_at pat) row.0 e.0 e.1) _
      (unify_grows P depth sc (pat_at pat) row.0 e.0 e.1 i.0.fit (ty_later P st e.1 row.0 i.0 k.0.0) i.1) (λ u j.
      let g : Grows P st u = grows_then P st e.1 u i.0 j in
      given_more (Grows P u) (Grows P st) (infer_rec_exps depth sc rest rows u) (λ v l. grows_then P st u v g l)
      (rec_exps_grow P depth sc rest rows u (ready_later P sc st u h g) (recs_later P st u rows g k.1))))

  pub dec_grows : (P : ℕ → Type 0) (depth : ℕ) (sc : Scope) (dec : DecPhrase) (st : Progress) → IsReady P sc st
      → Given (MadeIn P st) (infer_dec depth sc dec st)
  dec_grows P depth sc (DecPhrase.Val tyvars rules recs at) st h =
      given_then (ListedIn P st) (MadeIn P st) (own_variables sc tyvars rules recs st) _
      (own_grows P sc tyvars rules recs st h) (λ own k.
      let inner : Scope = with_written (as_written own.0) sc in
      let ready : IsReady P inner own.1 = ready_written P own.0 sc own.1 k.1 (ready_later P sc st own.1 h k.0) in
      given_then (BindsIn P own.1) (MadeIn P st) (infer_binds depth inner rules [] [] own.1) _
      (binds_grow P depth inner rules [] [] own.1 ready tt tt) (λ b l.
      given_then (RecsIn P b.2) (MadeIn P st) (infer_rec_pats depth inner recs [] b.0 b.2) _
      (rec_pats_grow P depth inner recs [] b.0 b.2 (ready_later P inner own.1 b.2 ready l.0) tt l.1) (λ p m.
      let g : Grows P own.1 p.1 = grows_then P own.1 b.2 p.1 l.0 m.0 in
      given_then (Grows P p.1) (MadeIn P st)
      (infer_rec_exps depth (under_bound (rec_bound p.0) inner) recs p.0 p.1) _
      (rec_exps_grow P depth (under_bound (rec_bound p.0) inner) recs p.0 p.1
      (ready_bound P (rec_bound p.0) inner p.1 (rec_bound_in P p.1.types p.0 m.1)
      (ready_later P inner own.1 p.1 ready g)) m.1) (λ u n.
      let f : Grows P st u = grows_then P st own.1 u k.0 (grows_then P own.1 p.1 u g n) in
      given_then (MadeIn P u) (MadeIn P st) (closed_val sc at (is_kept sc u.types.stands) own.0
      (b.1 ++ rec_groups sc.env recs p.0) u) _
      (closed_grows P sc at (is_kept sc u.types.stands) own.0 (b.1 ++ rec_groups sc.env recs p.0) u n.fit
      (items_after (GroupIn P u.types) b.1 (rec_groups sc.env recs p.0)
      (groups_later P b.2 u b.1 (grows_then P b.2 p.1 u m.0 n) l.2)
      (rec_groups_in P u.types sc.env recs p.0 (recs_later P p.1 u p.0 n m.1)))) (λ r i.
      dec_sized P st sc at r (made_after P st u f r i))))))
  dec_grows P depth sc (DecPhrase.Types binds at) st h =
      given_then (MadeIn P st) (MadeIn P st) (infer_types sc binds empty_env st) _
      (types_grow P sc binds empty_env st h (has_nothing (SchemeIn P st.types) (FunctionIn P st.types)))
      (λ r k. dec_sized P st sc at r k)
  dec_grows P depth sc (DecPhrase.Datatypes binds at) st h =
      given_then (MadeIn P st) (MadeIn P st) (datatypes_of sc reserved_constructors binds st) _
      (datatypes_grow P sc reserved_constructors binds st h) (λ r k. dec_sized P st sc at r k)
  dec_grows P depth sc (DecPhrase.Replication name long at) st h =
      given_then (EnvIn P st.types) (MadeIn P st) (infer_replication sc name long) _
      (replication_grows P st.types sc name long h.scope)
      (λ made k. dec_sized P st sc at (made, st) (grows_same P st h.fit, k))
  dec_grows P depth sc (DecPhrase.Exceptions binds at) st h =
      given_then (EnvIn P st.types) (MadeIn P st) (exceptions_of sc binds) _
      (exceptions_grow P st.types sc binds h.scope)
      (λ made k. dec_sized P st sc at (made, st) (grows_same P st h.fit, k))
  dec_grows P depth sc (DecPhrase.Local hidden shown at) st h =
      given_then (MadeIn P st) (MadeIn P st) (infer_dec depth sc hidden st) _ (dec_grows P depth sc hidden st h) (λ d k.
      given_then (MadeIn P d.1) (MadeIn P st) (infer_dec depth (under d.0 sc) shown d.1) _
      (dec_grows P depth (under d.0 sc) shown d.1 (ready_under P d.0 sc d.1 k.1 (ready_later P sc st d.1 h k.0)))
      (λ r l.
      dec_sized P st sc at r (made_after P st d.1 k.0 r l)))
  dec_grows P depth sc (DecPhrase.Open longs at) st h =
      given_then (EnvIn P st.types) (MadeIn P st) (infer_open sc longs empty_env) _
      (open_in P st.types sc longs empty_env h.scope (has_nothing (SchemeIn P st.types) (FunctionIn P st.types)))
      (λ made k. dec_sized P st sc at (made, st) (grows_same P st h.fit, k))
  dec_grows P depth sc (DecPhrase.Sequence decs at) st h = decs_grow P depth sc decs st h
  dec_grows P depth sc (DecPhrase.Structures binds at) st h = tt

  pub decs_grow : (P : ℕ → Type 0) (depth : ℕ) (sc : Scope) (decs : DecPhrases) (st : Progress) → IsReady P sc st
      → Given (MadeIn P st) (infer_decs depth sc decs st)
  decs_grow P depth sc DecPhrases.EndOfDecs st h =
      (grows_same P st h.fit, has_nothing (SchemeIn P st.types) (FunctionIn P st.types))
  decs_grow P depth sc (DecPhrases.Dec dec rest) st h =
      given_then (MadeIn P st) (MadeIn P st) (infer_dec depth sc dec st) _ (dec_grows P depth sc dec st h) (λ d k.
      given_then (MadeIn P d.1) (MadeIn P st) (infer_decs depth (under d.0 sc) rest d.1) _
      (decs_grow P depth (under d.0 sc) rest d.1 (ready_under P d.0 sc d.1 k.1 (ready_later P sc st d.1 h k.0)))
      (λ q l. (
        grows_then P st d.1 q.1 k.0 l.0,
        has_modified (SchemeIn P q.1.types) (FunctionIn P q.1.types) d.0 q.0 (env_later P d.1 q.1 d.0 l.0 k.1) l.1,
      )))
