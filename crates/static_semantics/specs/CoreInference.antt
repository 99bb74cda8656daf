-- The type of an expression, and what a declaration makes. The Definition, rules 1 to 16 and 21 to 26.
use Rattle.std.specs.Prelude.{ℕ, ◌-◌, List, [], ◌∷◌, ◌++◌, length, drop, Option, Some, None, Err, Bool, true, false, ◌||◌, not, cond}
use Rattle.sml_trees.specs.declared.name.At.{At}
use Rattle.sml_trees.specs.declared.name.Name.{Name}
use Rattle.sml_trees.specs.declared.name.LongName.{LongName}
use Rattle.semantic_objects.specs.declared.symbol.Symbol.{Symbol}
use Rattle.semantic_objects.specs.declared.symbol.Symbol.TheVariants as symbol
use Rattle.semantic_objects.specs.declared.entry.VidStatus.TheVariants as status
use Rattle.semantic_objects.specs.Tables.{Table, entry, with_entry}
use Rattle.semantic_objects.specs.Trees.{TypeScheme}
use Rattle.semantic_objects.specs.Environments.{Env, structures, values, empty_env, modified_by, with_value}
use Rattle.unification.specs.Types.{Ty, Types, State, put}
use Rattle.unification.specs.Closing.{found_in, scheme_over}
use Rattle.bare_phrases.specs.Phrases.{PatPhrase, ExpPhrase, ExpFields, Rules, DecPhrase, DecPhrases}
use Rattle.static_semantics.specs.BasicTypes.{int_ty, string_ty, char_ty, exn_ty, arrow_ty, record_ty, reserved_constructors}
use Rattle.static_semantics.specs.Inferring.{Progress, Scope, under, with_written, Answer, ◌>>=◌, gives, diag_at, refuses_where, known, unify_at, found_at, is_named, stands_for_con, new_variable, new_instance, Bound, under_bound, free_in_env, is_kept, sized_exp, sized_dec}
use Rattle.static_semantics.specs.WrittenVariables.{written_in}
use Rattle.static_semantics.specs.Nonexpansive.{is_nonexpansive}
use Rattle.static_semantics.specs.TypeInference.{infer_ty, new_label, new_rigid, listed, as_written, infer_types}
use Rattle.static_semantics.specs.PatternInference.{pat_at, infer_pat}
use Rattle.static_semantics.specs.DatatypeInference.{is_new, datatypes_of, infer_replication, exceptions_of}

abbrev pub exp_at : ExpPhrase → At
exp_at (ExpPhrase.Int value at) = at
exp_at (ExpPhrase.Str value at) = at
exp_at (ExpPhrase.Char value at) = at
exp_at (ExpPhrase.Long long at) = at
exp_at (ExpPhrase.Record fields at) = at
exp_at (ExpPhrase.Let dec body at) = at
exp_at (ExpPhrase.App function argument at) = at
exp_at (ExpPhrase.Typed exp ty at) = at
exp_at (ExpPhrase.Handle exp rules at) = at
exp_at (ExpPhrase.Raise exp at) = at
exp_at (ExpPhrase.Fn rules at) = at

-- ---- steps of expressions

-- an instance of what a name stands for
abbrev pub known_exp : Scope → LongName → Progress → Answer (Ty × Progress)
known_exp sc long st =
    known sc long (found_at values long.parts sc.env) >>= λ value. gives (new_instance value.scheme st)

-- a function's type and its argument's, after both: the function's is an arrow from the argument's to a new one
abbrev pub applied : ℕ → Scope → At → Ty → Ty → Progress → Answer (Ty × Progress)
applied depth sc at function argument st =
    unify_at depth sc at function (arrow_ty argument (new_variable st).0) (new_variable st).1
    >>= λ u. gives ((new_variable st).0, u)

-- an expression's type that is to be another one
abbrev pub joined : ℕ → Scope → At → Ty → Ty → Progress → Answer (Ty × Progress)
joined depth sc at ty other st = unify_at depth sc at ty other st >>= λ u. gives (ty, u)

-- the match of a handler takes `exn` to the type of what it handles
abbrev pub handled : ℕ → Scope → At → Ty → Ty → Progress → Answer (Ty × Progress)
handled depth sc at ty handler st =
    unify_at depth sc at handler (arrow_ty exn_ty ty) st >>= λ u. gives (ty, u)

abbrev pub raised : ℕ → Scope → At → Ty → Progress → Answer (Ty × Progress)
raised depth sc at ty st = unify_at depth sc at ty exn_ty st >>= λ u. gives (new_variable u)

-- whether a type name of the unit with a number from one up to below another stands in a type
abbrev pub is_made_between : List ℕ → ℕ → ℕ → Symbol → Bool
is_made_between home from to symbol.Arrow = false
is_made_between home from to (symbol.Record labels) = false
is_made_between home from to (symbol.Name name) = is_new home from (to - from) name

abbrev mutual
  pub holds_made : List ℕ → ℕ → ℕ → Ty → Bool
  holds_made home from to (Ty.Var n) = false
  holds_made home from to (Ty.Made c ts) = is_made_between home from to c || any_holds_made home from to ts

  pub any_holds_made : List ℕ → ℕ → ℕ → Types → Bool
  any_holds_made home from to Types.Nil = false
  any_holds_made home from to (Types.Cons t ts) = holds_made home from to t || any_holds_made home from to ts

-- the type of a `let` whose declaration took the numbers from one up to below another: 41
abbrev pub within_let : Scope → At → ℕ → ℕ → Ty × Progress → Answer (Ty × Progress)
within_let sc at from to r =
    refuses_where (holds_made sc.home from to (put r.1.types.stands r.0)) 41 sc at >>= λ u. gives r

-- ---- steps of `val`

-- the variables that stand unguarded in a `val` and are neither in its list nor in scope, after those of its list
abbrev pub implicit : List (List ℕ × Ty) → List (List ℕ) → List (List ℕ × ℕ) → Progress → List (List ℕ × ℕ) × Progress
implicit outer [] before st = (before, st)
implicit outer (text ∷ texts) before st = cond (is_named text before || is_named text outer)
    (implicit outer texts before st)
    (implicit outer texts (before ++ (text, st.types.next) ∷ []) (new_rigid text st))

-- the written type variables that a `val` binds
abbrev pub own_variables : Scope → List Name → Rules → Rules → Progress → Answer (List (List ℕ × ℕ) × Progress)
own_variables sc tyvars rules recs st =
    listed sc tyvars [] st >>= λ r. gives (implicit sc.written (written_in rules recs) r.0 r.1)

-- the variables of a binding, and whether its right side is nonexpansive
abbrev pub Group : Type 0
Group = Bool × Bound

-- those that a pattern bound after others
abbrev pub added : Bound → Bound → Bound
added before after = drop (length before) after

-- a `rec` pattern is a variable, with type constraints or without
abbrev pub names_variable : Env → List (List ℕ) → Bool
names_variable env [] = false
names_variable env (name ∷ []) = not (stands_for_con (entry name (values env)))
names_variable env (name ∷ next ∷ rest) = false

abbrev pub is_variable : Env → PatPhrase → Bool
is_variable env (PatPhrase.Wild at) = false
is_variable env (PatPhrase.Int value at) = false
is_variable env (PatPhrase.Str value at) = false
is_variable env (PatPhrase.Char value at) = false
is_variable env (PatPhrase.Long long at) = names_variable env long.parts
is_variable env (PatPhrase.Record fields at) = false
is_variable env (PatPhrase.Con long arg at) = false
is_variable env (PatPhrase.Typed pat ty at) = is_variable env pat
is_variable env (PatPhrase.As name ty pat at) = false

-- `rec` patterns, after the variables bound before: for each its type and its variables
abbrev pub RecPats : Type 0
RecPats = List (Ty × Bound)

abbrev pub infer_rec_pats : ℕ → Scope → Rules → RecPats → Bound → Progress → Answer (RecPats × Progress)
infer_rec_pats depth sc Rules.EndOfRules made bound st = gives (made, st)
infer_rec_pats depth sc (Rules.Rule pat exp rest) made bound st =
    infer_pat depth sc pat bound st
    >>= λ r. refuses_where (not (is_variable sc.env pat)) 34 sc (pat_at pat)
    >>= λ u. infer_rec_pats depth sc rest (made ++ (r.0, added bound r.1) ∷ []) r.1 r.2

abbrev pub rec_bound : RecPats → Bound
rec_bound [] = []
rec_bound (row ∷ rows) = row.1 ++ rec_bound rows

abbrev pub rec_groups : Env → Rules → RecPats → List Group
rec_groups env Rules.EndOfRules rows = []
rec_groups env (Rules.Rule pat exp rest) [] = []
rec_groups env (Rules.Rule pat exp rest) (row ∷ rows) = (is_nonexpansive env exp, row.1) ∷ rec_groups env rest rows

-- a variable's type closed over the variables that aren't kept, or as it is
abbrev pub closed_where : Bool → (ℕ → Bool) → State → Ty → TypeScheme
closed_where true kept s ty = scheme_over (found_in kept (put s.stands ty) []) s.marks (put s.stands ty)
closed_where false kept s ty = scheme_over [] s.marks (put s.stands ty)

abbrev pub closed_variables : Bool → (ℕ → Bool) → State → Bound → Env → Env
closed_variables closes kept s [] env = env
closed_variables closes kept s (row ∷ rows) env = closed_variables closes kept s rows
    (with_value row.0 (record { status = status.Variable; scheme = closed_where closes kept s row.1 }) env)

abbrev pub closed_groups : (ℕ → Bool) → State → List Group → Env → Env
closed_groups kept s [] env = env
closed_groups kept s (group ∷ groups) env =
    closed_groups kept s groups (closed_variables group.0 kept s group.1 env)

-- a written type variable that is kept, or is free in what the `val` makes: 37 names the first
abbrev pub left_over : (ℕ → Bool) → State → Env → List (List ℕ × ℕ) → Option (List ℕ)
left_over kept s made [] = None
left_over kept s made (row ∷ rows) = cond (kept row.1 || free_in_env row.1 s.stands made)
    (Some row.0)
    (left_over kept s made rows)

abbrev pub none_left : {A : Type 0} → Scope → At → A → Option (List ℕ) → Answer A
none_left sc at x None = gives x
none_left sc at x (Some text) = Some (Err (diag_at 37 sc at (text ∷ [])))

-- what a `val` makes of the variables that it binds, when all has been inferred
abbrev pub closed_val :
    Scope → At → (ℕ → Bool) → List (List ℕ × ℕ) → List Group → Progress → Answer (Env × Progress)
closed_val sc at kept own groups st =
    none_left sc at (closed_groups kept st.types groups empty_env, st)
    (left_over kept st.types (closed_groups kept st.types groups empty_env) own)

-- ---- `open`

abbrev pub infer_open : Scope → List LongName → Env → Answer Env
infer_open sc [] made = gives made
infer_open sc (long ∷ longs) made =
    known sc long (found_at structures long.parts sc.env)
    >>= λ env. infer_open sc longs (modified_by made env)

-- what needs no state
abbrev pub in_state : Progress → Env → Answer (Env × Progress)
in_state st made = gives (made, st)

-- ---- the phrases

abbrev mutual
  pub infer_exp : ℕ → Scope → ExpPhrase → Progress → Answer (Ty × Progress)
  infer_exp depth sc (ExpPhrase.Int value at) st = sized_exp sc at (int_ty, st)
  infer_exp depth sc (ExpPhrase.Str value at) st = sized_exp sc at (string_ty, st)
  infer_exp depth sc (ExpPhrase.Char value at) st = sized_exp sc at (char_ty, st)
  infer_exp depth sc (ExpPhrase.Long long at) st = known_exp sc long st >>= λ r. sized_exp sc at r
  infer_exp depth sc (ExpPhrase.Record fields at) st =
      infer_exp_fields depth sc fields [] st
      >>= λ r. sized_exp sc at (record_ty r.0, r.1)
  infer_exp depth sc (ExpPhrase.Let dec body at) st =
      infer_dec depth sc dec st
      >>= λ d. infer_exp depth (under d.0 sc) body d.1
      >>= λ r. within_let sc at st.names d.1.names r
      >>= λ q. sized_exp sc at q
  infer_exp depth sc (ExpPhrase.App function argument at) st =
      infer_exp depth sc function st
      >>= λ f. infer_exp depth sc argument f.1
      >>= λ a. applied depth sc at f.0 a.0 a.1
      >>= λ r. sized_exp sc at r
  infer_exp depth sc (ExpPhrase.Typed exp ty at) st =
      infer_exp depth sc exp st
      >>= λ e. infer_ty sc ty
      >>= λ t. joined depth sc at e.0 t e.1
      >>= λ r. sized_exp sc at r
  infer_exp depth sc (ExpPhrase.Handle exp rules at) st =
      infer_exp depth sc exp st
      >>= λ e. infer_match depth sc rules e.1
      >>= λ m. handled depth sc at e.0 m.0 m.1
      >>= λ r. sized_exp sc at r
  infer_exp depth sc (ExpPhrase.Raise exp at) st =
      infer_exp depth sc exp st
      >>= λ e. raised depth sc at e.0 e.1
      >>= λ r. sized_exp sc at r
  infer_exp depth sc (ExpPhrase.Fn rules at) st = infer_match depth sc rules st >>= λ r. sized_exp sc at r

  -- fields after others, which are given by label
  pub infer_exp_fields : ℕ → Scope → ExpFields → Table Ty → Progress → Answer (Table Ty × Progress)
  infer_exp_fields depth sc ExpFields.EndOfFields made st = gives (made, st)
  infer_exp_fields depth sc (ExpFields.Field label exp rest) made st =
      new_label sc label made
      >>= λ u. infer_exp depth sc exp st
      >>= λ r. infer_exp_fields depth sc rest (with_entry label.text r.0 made) r.1

  pub infer_match : ℕ → Scope → Rules → Progress → Answer (Ty × Progress)
  infer_match depth sc Rules.EndOfRules st =
      gives (arrow_ty (new_variable st).0 (new_variable (new_variable st).1).0, (new_variable (new_variable st).1).1)
  infer_match depth sc (Rules.Rule pat exp rest) st =
      infer_pat depth sc pat [] st
      >>= λ p. infer_exp depth (under_bound p.1 sc) exp p.2
      >>= λ e. infer_rules depth sc p.0 e.0 rest e.1
      >>= λ u. gives (arrow_ty p.0 e.0, u)

  -- further rules, after the types of the first one's pattern and expression
  pub infer_rules : ℕ → Scope → Ty → Ty → Rules → Progress → Answer Progress
  infer_rules depth sc from to Rules.EndOfRules st = gives st
  infer_rules depth sc from to (Rules.Rule pat exp rest) st =
      infer_pat depth sc pat [] st
      >>= λ p. unify_at depth sc (pat_at pat) p.0 from p.2
      >>= λ s. infer_exp depth (under_bound p.1 sc) exp s
      >>= λ e. unify_at depth sc (exp_at exp) e.0 to e.1
      >>= λ u. infer_rules depth sc from to rest u

  -- the plain bindings of a `val`, after the variables bound before and the bindings before
  pub infer_binds : ℕ → Scope → Rules → Bound → List Group → Progress → Answer (Bound × List Group × Progress)
  infer_binds depth sc Rules.EndOfRules bound groups st = gives (bound, groups, st)
  infer_binds depth sc (Rules.Rule pat exp rest) bound groups st =
      infer_pat depth sc pat bound st
      >>= λ p. infer_exp depth sc exp p.2
      >>= λ e. unify_at depth sc (pat_at pat) p.0 e.0 e.1
      >>= λ u. infer_binds depth sc rest p.1 (groups ++ (is_nonexpansive sc.env exp, added bound p.1) ∷ []) u

  -- the expressions of `rec` bindings, in the scope with their variables, after their patterns
  pub infer_rec_exps : ℕ → Scope → Rules → RecPats → Progress → Answer Progress
  infer_rec_exps depth sc Rules.EndOfRules rows st = gives st
  infer_rec_exps depth sc (Rules.Rule pat exp rest) [] st = None
  infer_rec_exps depth sc (Rules.Rule pat exp rest) (row ∷ rows) st =
      infer_exp depth sc exp st
      >>= λ e. unify_at depth sc (pat_at pat) row.0 e.0 e.1
      >>= λ u. infer_rec_exps depth sc rest rows u

  pub infer_dec : ℕ → Scope → DecPhrase → Progress → Answer (Env × Progress)
  infer_dec depth sc (DecPhrase.Val tyvars rules recs at) st =
      own_variables sc tyvars rules recs st
      >>= λ own. infer_binds depth (with_written (as_written own.0) sc) rules [] [] own.1
      >>= λ b. infer_rec_pats depth (with_written (as_written own.0) sc) recs [] b.0 b.2
      >>= λ p. infer_rec_exps depth (under_bound (rec_bound p.0) (with_written (as_written own.0) sc)) recs p.0 p.1
      >>= λ u. closed_val sc at (is_kept sc u.types.stands) own.0 (b.1 ++ rec_groups sc.env recs p.0) u
      >>= λ r. sized_dec sc at r
  infer_dec depth sc (DecPhrase.Types binds at) st =
      infer_types sc binds empty_env st >>= λ r. sized_dec sc at r
  infer_dec depth sc (DecPhrase.Datatypes binds at) st =
      datatypes_of sc reserved_constructors binds st >>= λ r. sized_dec sc at r
  infer_dec depth sc (DecPhrase.Replication name long at) st =
      infer_replication sc name long >>= λ made. sized_dec sc at (made, st)
  infer_dec depth sc (DecPhrase.Exceptions binds at) st =
      exceptions_of sc binds >>= λ made. sized_dec sc at (made, st)
  infer_dec depth sc (DecPhrase.Local hidden shown at) st =
      infer_dec depth sc hidden st
      >>= λ h. infer_dec depth (under h.0 sc) shown h.1
      >>= λ r. sized_dec sc at r
  infer_dec depth sc (DecPhrase.Open longs at) st =
      infer_open sc longs empty_env >>= λ made. sized_dec sc at (made, st)
  infer_dec depth sc (DecPhrase.Sequence decs at) st = infer_decs depth sc decs st
  infer_dec depth sc (DecPhrase.Structures binds at) st = None

  pub infer_decs : ℕ → Scope → DecPhrases → Progress → Answer (Env × Progress)
  infer_decs depth sc DecPhrases.EndOfDecs st = gives (empty_env, st)
  infer_decs depth sc (DecPhrases.Dec dec rest) st =
      infer_dec depth sc dec st
      >>= λ r. infer_decs depth (under r.0 sc) rest r.1
      >>= λ q. gives (modified_by r.0 q.0, q.1)
