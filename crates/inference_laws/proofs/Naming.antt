-- The names of what inference makes are those of what it is given.
use Rattle.std.proofs.Common.{ℕ, suc, List, [], ◌∷◌, ◌++◌, length, get_or, ◌-◌, Option, Some, None, Bool, true, false, not}
use Rattle.std.specs.Option.{is_some}
use Rattle.sml_trees.specs.declared.name.At.{At}
use Rattle.sml_trees.specs.declared.name.LongName.{LongName}
use Rattle.semantic_objects.specs.declared.name.TyName.{TyName}
use Rattle.semantic_objects.specs.declared.entry.ConEntry.{ConEntry}
use Rattle.semantic_objects.specs.declared.entry.TypeStr.{TypeStr}
use Rattle.semantic_objects.specs.declared.entry.ValueEntry.{ValueEntry}
use Rattle.semantic_objects.specs.declared.entry.VidStatus.TheVariants as status
use Rattle.semantic_objects.specs.Tables.{Table, entry, with_entry}
use Rattle.semantic_objects.specs.Trees.{TypeScheme}
use Rattle.semantic_objects.specs.Environments.{Env, structures, types, values, empty_env, with_type, with_value, modified_by}
use Rattle.unification.specs.Types.{Ty, State}
use Rattle.bare_phrases.specs.Phrases.{TypPhrase, ConPhrase, DatPhrase, ExPhrase, PatPhrase, PatFields, Rules, DecPhrase, DecPhrases}
use Rattle.static_semantics.specs.BasicTypes.{int_ty, string_ty, char_ty, record_ty, is_one_of, reserved_names, reserved_constructors}
use Rattle.static_semantics.specs.Inferring.{Progress, Scope, under, with_written, with_written_alone, gives, name_at, known, unify_at, found_at, is_named, is_con, stands_for_con, new_variable, new_instance, Bound, under_bound, is_kept, is_too_large, has_too_large, sized_pat, sized_dec}
use Rattle.static_semantics.specs.TypeInference.{infer_ty, listed, numbers, as_written, type_function, plain_type, infer_types}
use Rattle.static_semantics.specs.PatternInference.{pat_at, bind_variable, takes_none, arrow_in, with_argument, applied_con, known_pat, name_by, name_pat, typed_variable, infer_pat, infer_pat_fields}
use Rattle.static_semantics.specs.DatatypeInference.{own_name, own_ty, new_types, Con, Dat, infer_optional_ty, infer_cons, cons_of, infer_dats, equality_choice, con_schemes, con_entries, with_cons, with_datatype, datatype_str, made_types, datatypes_of, infer_replication, exception_of, infer_exceptions, exceptions_of}
use Rattle.static_semantics.specs.CoreInference.{own_variables, Group, added, is_variable, RecPats, infer_rec_pats, rec_bound, rec_groups, closed_where, closed_variables, closed_groups, left_over, none_left, closed_val, infer_open, infer_exp, infer_binds, infer_rec_exps, infer_dec, infer_decs}
use Rattle.static_semantics.specs.Nonexpansive.{is_nonexpansive}
use Rattle.static_semantics.specs.Holding.{Given, IfSome, AllItems}
use Rattle.static_semantics.proofs.Holding.{given_then, given_where, given_known}
use Rattle.unification.specs.Types.{put}
use Rattle.inference_laws.specs.Nodes.{IsGood}
use Rattle.inference_laws.specs.Naming.{RowsWith, NamedType, NamedValue, NamedEnv}
use Rattle.inference_laws.specs.Spelling.{TypSpelt, ConSpelt, DatSpelt, ExSpelt, PatSpelt, PatFieldsSpelt, RulesSpelt, DecSpelt, DecsSpelt}
use Rattle.inference_laws.proofs.EnvsWith.{rows_with, rows_after, rows_drop, items_after, env_structures, env_types, env_nothing, env_with_type, env_with_value, env_modified, env_found}
use Rattle.inference_laws.proofs.SameTypes.{given_any}

-- ---- environments

module _ (good : List ℕ → Bool) where
  named_nothing : NamedEnv good empty_env
  named_nothing = env_nothing (IsGood good) (NamedType good) NamedValue

  named_with_type : (name : List ℕ) (str : TypeStr) (env : Env) → IsGood good name → NamedType good str
      → NamedEnv good env → NamedEnv good (with_type name str env)
  named_with_type = env_with_type (IsGood good) (NamedType good) NamedValue

  named_with_value : (name : List ℕ) (value : ValueEntry) (env : Env) → IsGood good name → NamedEnv good env
      → NamedEnv good (with_value name value env)
  named_with_value name value env h k =
      env_with_value (IsGood good) (NamedType good) NamedValue name value env h tt k

  named_modified : (env by : Env) → NamedEnv good env → NamedEnv good by → NamedEnv good (modified_by env by)
  named_modified = env_modified (IsGood good) (NamedType good) NamedValue

  named_type_found : (parts : List (List ℕ)) (env : Env) → NamedEnv good env
      → IfSome (NamedType good) (found_at types parts env)
  named_type_found = env_found (IsGood good) (NamedType good) NamedValue (NamedType good) types
      (env_types (IsGood good) (NamedType good) NamedValue)

  named_structure_found : (parts : List (List ℕ)) (env : Env) → NamedEnv good env
      → IfSome (NamedEnv good) (found_at structures parts env)
  named_structure_found = env_found (IsGood good) (NamedType good) NamedValue (NamedEnv good) structures
      (env_structures (IsGood good) (NamedType good) NamedValue)

-- ---- patterns

abbrev NamedTy : Ty → Type 0
NamedTy t = Unit {0}

abbrev BoundNamed : (List ℕ → Bool) → Bound → Type 0
BoundNamed good bound = RowsWith (IsGood good) NamedTy bound

abbrev PatNamed : (List ℕ → Bool) → Ty × Bound × Progress → Type 0
PatNamed good r = BoundNamed good r.1

pat_sized : (good : List ℕ → Bool) (sc : Scope) (at : At) (r : Ty × Bound × Progress) → PatNamed good r
    → Given (PatNamed good) (sized_pat sc at r)
pat_sized good sc at r h = given_where (PatNamed good) (is_too_large (put r.2.types.stands r.0)) 38 sc at
    (λ u. gives r) h

bind_named : (good : List ℕ → Bool) (sc : Scope) (at : At) (name : List ℕ) (bound : Bound) (st : Progress)
    → IsGood good name → BoundNamed good bound → Given (PatNamed good) (bind_variable sc at name bound st)
bind_named good sc at name bound st h k = given_where (PatNamed good) (is_one_of reserved_names name) 34 sc at _
    (given_where (PatNamed good) (is_named name bound) 40 sc at _
    (rows_after (IsGood good) NamedTy bound ((name, (new_variable st).0) ∷ []) k (h, tt, tt)))

known_named : (good : List ℕ → Bool) (sc : Scope) (long : LongName) (at : At) (bound : Bound) (st : Progress)
    → BoundNamed good bound → Given (PatNamed good) (known_pat sc long at bound st)
known_named good sc long at bound st k =
    given_then (λ v. Unit {0}) (PatNamed good) (known sc long (found_at values long.parts sc.env)) _
    (given_any (known sc long (found_at values long.parts sc.env))) (λ value _.
    given_where (PatNamed good) (not (is_con value.status)) 34 sc at _
    (given_where (PatNamed good) (not (takes_none value.scheme.body)) 34 sc at _ k))

by_named : (good : List ℕ → Bool) (sc : Scope) (at : At) (c : Bool) (name : List ℕ) (long : LongName) (bound : Bound)
    (st : Progress) → IsGood good name → BoundNamed good bound
    → Given (PatNamed good) (name_by sc at c name long bound st)
by_named good sc at true name long bound st h k = known_named good sc long at bound st k
by_named good sc at false name long bound st h k = bind_named good sc at name bound st h k

name_named : (good : List ℕ → Bool) (sc : Scope) (long : LongName) (at : At) (parts : List (List ℕ)) (bound : Bound)
    (st : Progress) → AllItems (IsGood good) parts → BoundNamed good bound
    → Given (PatNamed good) (name_pat sc long at parts bound st)
name_named good sc long at [] bound st h k = known_named good sc long at bound st k
name_named good sc long at (name ∷ []) bound st h k =
    by_named good sc at (stands_for_con (entry name (values sc.env))) name long bound st h.0 k
name_named good sc long at (name ∷ next ∷ rest) bound st h k = known_named good sc long at bound st k

applied_named : (good : List ℕ → Bool) (depth : ℕ) (sc : Scope) (at : At) (value : ValueEntry)
    (arg : Ty × Bound × Progress) → PatNamed good arg → Given (PatNamed good) (applied_con depth sc at value arg)
applied_named good depth sc at value arg k =
    let o : Option (Ty × Ty) = arrow_in value.scheme.body (new_instance value.scheme arg.2).0 in
    given_where (PatNamed good) (not (is_con value.status)) 34 sc at _
    (given_then (λ v. Unit {0}) (PatNamed good) (with_argument sc at o) _ (given_any (with_argument sc at o))
    (λ parts _.
    given_then (λ v. Unit {0}) (PatNamed good)
    (unify_at depth sc at parts.0 arg.0 (new_instance value.scheme arg.2).1) _
    (given_any (unify_at depth sc at parts.0 arg.0 (new_instance value.scheme arg.2).1)) (λ u _. k)))

mutual
  pat_named : (good : List ℕ → Bool) (depth : ℕ) (sc : Scope) (pat : PatPhrase) (bound : Bound) (st : Progress)
      → PatSpelt good pat → BoundNamed good bound → Given (PatNamed good) (infer_pat depth sc pat bound st)
  pat_named good depth sc (PatPhrase.Wild at) bound st p k =
      pat_sized good sc at ((new_variable st).0, bound, (new_variable st).1) k
  pat_named good depth sc (PatPhrase.Int value at) bound st p k = pat_sized good sc at (int_ty, bound, st) k
  pat_named good depth sc (PatPhrase.Str value at) bound st p k = pat_sized good sc at (string_ty, bound, st) k
  pat_named good depth sc (PatPhrase.Char value at) bound st p k = pat_sized good sc at (char_ty, bound, st) k
  pat_named good depth sc (PatPhrase.Long long at) bound st p k =
      given_then (PatNamed good) (PatNamed good) (name_pat sc long at long.parts bound st) _
      (name_named good sc long at long.parts bound st p k) (λ r i. pat_sized good sc at r i)
  pat_named good depth sc (PatPhrase.Record fields at) bound st p k =
      given_then (λ r. BoundNamed good r.1) (PatNamed good) (infer_pat_fields depth sc fields [] bound st) _
      (pat_fields_named good depth sc fields [] bound st p k) (λ r i. pat_sized good sc at (record_ty r.0, r.1, r.2) i)
  pat_named good depth sc (PatPhrase.Con long arg at) bound st p k =
      given_then (λ v. Unit {0}) (PatNamed good) (known sc long (found_at values long.parts sc.env)) _
      (given_any (known sc long (found_at values long.parts sc.env))) (λ value _.
      given_then (PatNamed good) (PatNamed good) (infer_pat depth sc arg bound st) _
      (pat_named good depth sc arg bound st p k) (λ r i.
      given_then (PatNamed good) (PatNamed good) (applied_con depth sc at value r) _
      (applied_named good depth sc at value r i) (λ v j. pat_sized good sc at v j)))
  pat_named good depth sc (PatPhrase.Typed pat ty at) bound st p k =
      given_then (PatNamed good) (PatNamed good) (infer_pat depth sc pat bound st) _
      (pat_named good depth sc pat bound st p.0 k) (λ r i.
      given_then (λ v. Unit {0}) (PatNamed good) (infer_ty sc ty) _ (given_any (infer_ty sc ty)) (λ t _.
      given_then (λ v. Unit {0}) (PatNamed good) (unify_at depth sc at r.0 t r.2) _
      (given_any (unify_at depth sc at r.0 t r.2)) (λ u _. pat_sized good sc at (r.0, r.1, u) i)))
  pat_named good depth sc (PatPhrase.As name ty pat at) bound st p k =
      given_where (PatNamed good) (stands_for_con (entry name.text (values sc.env))) 34 sc at _
      (given_then (PatNamed good) (PatNamed good) (bind_variable sc (name_at name) name.text bound st) _
      (bind_named good sc (name_at name) name.text bound st p.0 k) (λ x i.
      given_then (λ v. Unit {0}) (PatNamed good) (typed_variable depth sc at x.0 ty x.2) _
      (given_any (typed_variable depth sc at x.0 ty x.2)) (λ s _.
      given_then (PatNamed good) (PatNamed good) (infer_pat depth sc pat x.1 s) _
      (pat_named good depth sc pat x.1 s p.2 i) (λ r j.
      given_then (λ v. Unit {0}) (PatNamed good) (unify_at depth sc at x.0 r.0 r.2) _
      (given_any (unify_at depth sc at x.0 r.0 r.2)) (λ u _. pat_sized good sc at (x.0, r.1, u) j)))))

  pat_fields_named : (good : List ℕ → Bool) (depth : ℕ) (sc : Scope) (fields : PatFields) (made : Table Ty)
      (bound : Bound) (st : Progress) → PatFieldsSpelt good fields → BoundNamed good bound
      → Given (λ r. BoundNamed good r.1) (infer_pat_fields depth sc fields made bound st)
  pat_fields_named good depth sc PatFields.EndOfFields made bound st p k = k
  pat_fields_named good depth sc (PatFields.Field label pat rest) made bound st p k =
      given_where (λ (r : Table Ty × Bound × Progress). BoundNamed good r.1) (is_some (entry label.text made)) 40 sc
      (name_at label) _
      (given_then (PatNamed good) (λ r. BoundNamed good r.1) (infer_pat depth sc pat bound st) _
      (pat_named good depth sc pat bound st p.1 k) (λ r i.
      pat_fields_named good depth sc rest (with_entry label.text r.0 made) r.1 r.2 p.2 i))

-- ---- `val`

abbrev GroupsNamed : (List ℕ → Bool) → List Group → Type 0
GroupsNamed good groups = AllItems (λ (group : Group). BoundNamed good group.1) groups

abbrev RecsNamed : (List ℕ → Bool) → RecPats → Type 0
RecsNamed good rows = AllItems (λ (row : Ty × Bound). BoundNamed good row.1) rows

binds_named : (good : List ℕ → Bool) (depth : ℕ) (sc : Scope) (rules : Rules) (bound : Bound) (groups : List Group)
    (st : Progress) → RulesSpelt good rules → BoundNamed good bound → GroupsNamed good groups
    → Given (λ r. BoundNamed good r.0 × GroupsNamed good r.1) (infer_binds depth sc rules bound groups st)
binds_named good depth sc Rules.EndOfRules bound groups st p h k = (h, k)
binds_named good depth sc (Rules.Rule pat exp rest) bound groups st p h k =
    let Q : Bound × List Group × Progress → Type 0 = λ r. BoundNamed good r.0 × GroupsNamed good r.1 in
    given_then (PatNamed good) Q (infer_pat depth sc pat bound st) _ (pat_named good depth sc pat bound st p.0 h)
    (λ a i.
    given_then (λ v. Unit {0}) Q (infer_exp depth sc exp a.2) _ (given_any (infer_exp depth sc exp a.2)) (λ e _.
    given_then (λ v. Unit {0}) Q (unify_at depth sc (pat_at pat) a.0 e.0 e.1) _
    (given_any (unify_at depth sc (pat_at pat) a.0 e.0 e.1)) (λ u _.
    let group : Group = (is_nonexpansive sc.env exp, added bound a.1) in
    binds_named good depth sc rest a.1 (groups ++ group ∷ []) u p.2 i
    (items_after (λ (g : Group). BoundNamed good g.1) groups (group ∷ []) k
    (rows_drop (IsGood good) NamedTy (length bound) a.1 i, tt)))))

rec_pats_named : (good : List ℕ → Bool) (depth : ℕ) (sc : Scope) (rules : Rules) (made : RecPats) (bound : Bound)
    (st : Progress) → RulesSpelt good rules → RecsNamed good made → BoundNamed good bound
    → Given (λ r. RecsNamed good r.0) (infer_rec_pats depth sc rules made bound st)
rec_pats_named good depth sc Rules.EndOfRules made bound st p h k = h
rec_pats_named good depth sc (Rules.Rule pat exp rest) made bound st p h k =
    let Q : RecPats × Progress → Type 0 = λ r. RecsNamed good r.0 in
    given_then (PatNamed good) Q (infer_pat depth sc pat bound st) _ (pat_named good depth sc pat bound st p.0 k)
    (λ a i.
    given_where Q (not (is_variable sc.env pat)) 34 sc (pat_at pat) _
    (rec_pats_named good depth sc rest (made ++ (a.0, added bound a.1) ∷ []) a.1 a.2 p.2
    (items_after (λ (row : Ty × Bound). BoundNamed good row.1) made ((a.0, added bound a.1) ∷ []) h
    (rows_drop (IsGood good) NamedTy (length bound) a.1 i, tt)) i))

rec_groups_named : (good : List ℕ → Bool) (env : Env) (rules : Rules) (rows : RecPats) → RecsNamed good rows
    → GroupsNamed good (rec_groups env rules rows)
rec_groups_named good env Rules.EndOfRules rows h = tt
rec_groups_named good env (Rules.Rule pat exp rest) [] h = tt
rec_groups_named good env (Rules.Rule pat exp rest) (row ∷ rows) h = (h.0, rec_groups_named good env rest rows h.1)

variables_named : (good : List ℕ → Bool) (closes : Bool) (kept : ℕ → Bool) (s : State) (rows : Bound) (env : Env)
    → BoundNamed good rows → NamedEnv good env → NamedEnv good (closed_variables closes kept s rows env)
variables_named good closes kept s [] env h k = k
variables_named good closes kept s (row ∷ rows) env h k =
    let value : ValueEntry = record { status = status.Variable; scheme = closed_where closes kept s row.1 } in
    variables_named good closes kept s rows (with_value row.0 value env) h.2
    (named_with_value good row.0 value env h.0 k)

groups_named : (good : List ℕ → Bool) (kept : ℕ → Bool) (s : State) (groups : List Group) (env : Env)
    → GroupsNamed good groups → NamedEnv good env → NamedEnv good (closed_groups kept s groups env)
groups_named good kept s [] env h k = k
groups_named good kept s (group ∷ groups) env h k = groups_named good kept s groups
    (closed_variables group.0 kept s group.1 env) h.1 (variables_named good group.0 kept s group.1 env h.0 k)

none_left_in : {A : Type 0} (R : A → Type 0) (sc : Scope) (at : At) (x : A) (o : Option (List ℕ)) → R x
    → Given R (none_left sc at x o)
none_left_in R sc at x None h = h
none_left_in R sc at x (Some text) h = tt

-- ---- types and datatypes

abbrev DecNamed : (List ℕ → Bool) → Env × Progress → Type 0
DecNamed good r = NamedEnv good r.0

infer_types_named : (good : List ℕ → Bool) (sc : Scope) (binds : List TypPhrase) (made : Env) (st : Progress)
    → AllItems (TypSpelt good) binds → NamedEnv good made → Given (DecNamed good) (infer_types sc binds made st)
infer_types_named good sc [] made st p h = h
infer_types_named good sc (bind ∷ binds) made st p h =
    given_then (λ v. Unit {0}) (DecNamed good) (listed sc bind.tyvars [] st) _ (given_any (listed sc bind.tyvars [] st))
    (λ r _.
    given_where (DecNamed good) (is_some (entry bind.name.text (types made))) 40 sc (name_at bind.name) _
    (given_then (λ v. Unit {0}) (DecNamed good) (infer_ty (with_written_alone (as_written r.0) sc) bind.ty) _
    (given_any (infer_ty (with_written_alone (as_written r.0) sc) bind.ty)) (λ ty _.
    let str : TypeStr = plain_type (type_function (numbers r.0) ty) in
    infer_types_named good sc binds (with_type bind.name.text str made) r.1 p.1
    (named_with_type good bind.name.text str made p.0.0 tt h))))

abbrev NamedArg : Option Ty → Type 0
NamedArg arg = Unit {0}

abbrev ConsNamed : (List ℕ → Bool) → List Con → Type 0
ConsNamed good cons = RowsWith (IsGood good) NamedArg cons

abbrev DatNamed : (List ℕ → Bool) → Dat → Type 0
DatNamed good dat = IsGood good dat.name × ConsNamed good dat.cons

infer_cons_named : (good : List ℕ → Bool) (sc : Scope) (refused : List (List ℕ)) (cons : List ConPhrase)
    (before made : List Con) → AllItems (ConSpelt good) cons → ConsNamed good made
    → Given (ConsNamed good) (infer_cons sc refused cons before made)
infer_cons_named good sc refused [] before made p k = k
infer_cons_named good sc refused (con ∷ cons) before made p k =
    given_where (ConsNamed good) (is_one_of refused con.name.text) 34 sc (name_at con.name) _
    (given_where (ConsNamed good) (is_named con.name.text (before ++ made)) 40 sc (name_at con.name) _
    (given_then (λ v. Unit {0}) (ConsNamed good) (infer_optional_ty sc con.arg) _
    (given_any (infer_optional_ty sc con.arg))
    (λ arg _. infer_cons_named good sc refused cons before (made ++ (con.name.text, arg) ∷ []) p.1
    (rows_after (IsGood good) NamedArg made ((con.name.text, arg) ∷ []) k (p.0.0, tt, tt)))))

dats_named : (good : List ℕ → Bool) (sc : Scope) (refused : List (List ℕ)) (binds : List DatPhrase) (made : List Dat)
    (st : Progress) → AllItems (DatSpelt good) binds → AllItems (DatNamed good) made
    → Given (λ r. AllItems (DatNamed good) r.0) (infer_dats sc refused binds made st)
dats_named good sc refused [] made st p k = k
dats_named good sc refused (bind ∷ binds) made st p k =
    let Q : List Dat × Progress → Type 0 = λ r. AllItems (DatNamed good) r.0 in
    given_then (λ v. Unit {0}) Q (listed sc bind.tyvars [] st) _ (given_any (listed sc bind.tyvars [] st)) (λ r _.
    given_then (ConsNamed good) Q (infer_cons (with_written_alone (as_written r.0) sc) refused bind.cons (cons_of made)
    [])
    _ (infer_cons_named good (with_written_alone (as_written r.0) sc) refused bind.cons (cons_of made) [] p.0.1 tt)
    (λ cons m.
    let dat : Dat = record { name = bind.name.text; variables = r.0; cons = cons } in
    dats_named good sc refused binds (made ++ dat ∷ []) r.1 p.1
    (items_after (DatNamed good) made (dat ∷ []) k ((p.0.0, m), tt))))

abbrev NamedScheme : TypeScheme → Type 0
NamedScheme σ = Unit {0}

schemes_named : (good : List ℕ → Bool) (home : List ℕ) (first : ℕ) (choice : List Bool) (own : List (List ℕ × ℕ))
    (of : Ty) (cons : List Con) → ConsNamed good cons
    → RowsWith (IsGood good) NamedScheme (con_schemes home first choice own of cons)
schemes_named good home first choice own of [] h = tt
schemes_named good home first choice own of (con ∷ cons) h = rows_with (IsGood good) NamedScheme con.0 _
    (con_schemes home first choice own of cons) h.0 tt (schemes_named good home first choice own of cons h.2)

entries_named : (good : List ℕ → Bool) (rows : Table TypeScheme) → RowsWith (IsGood good) NamedScheme rows
    → AllItems (λ (con : ConEntry). IsGood good con.name) (con_entries rows)
entries_named good [] h = tt
entries_named good (row ∷ rows) h = (h.0, entries_named good rows h.2)

with_cons_named : (good : List ℕ → Bool) (cons : List ConEntry) (env : Env)
    → AllItems (λ (con : ConEntry). IsGood good con.name) cons → NamedEnv good env → NamedEnv good (with_cons cons env)
with_cons_named good [] env h k = k
with_cons_named good (con ∷ cons) env h k =
    let value : ValueEntry = record { status = status.Constructor; scheme = con.scheme } in
    with_cons_named good cons (with_value con.name value env) h.1 (named_with_value good con.name value env h.0 k)

with_datatype_named : (good : List ℕ → Bool) (name : List ℕ) (str : TypeStr) (env : Env) → IsGood good name
    → NamedType good str → NamedEnv good env → NamedEnv good (with_datatype name str env)
with_datatype_named good name str env h k l = with_cons_named good str.cons (with_type name str env) k
    (named_with_type good name str env h k l)

made_types_named : (good : List ℕ → Bool) (home : List ℕ) (first : ℕ) (choice : List Bool) (number : ℕ)
    (dats : List Dat) (env : Env) → AllItems (DatNamed good) dats → NamedEnv good env
    → NamedEnv good (made_types home first choice number dats env)
made_types_named good home first choice number [] env h k = k
made_types_named good home first choice number (dat ∷ dats) env h k =
    let name : TyName = own_name home number (length dat.variables) (get_or choice (number - first) false) in
    let of : Ty = own_ty name (numbers dat.variables) in
    let str : TypeStr = datatype_str home first choice dat.variables of dat.cons in
    made_types_named good home first choice (suc number) dats (with_datatype dat.name str env) h.1
    (with_datatype_named good dat.name str env h.0.0
    (entries_named good (con_schemes home first choice dat.variables of dat.cons)
    (schemes_named good home first choice dat.variables of dat.cons h.0.1)) k)

pub datatypes_named : (good : List ℕ → Bool) (sc : Scope) (refused : List (List ℕ)) (binds : List DatPhrase)
    (st : Progress) → AllItems (DatSpelt good) binds → Given (DecNamed good) (datatypes_of sc refused binds st)
datatypes_named good sc refused binds st p =
    given_then (λ v. Unit {0}) (DecNamed good) (new_types sc binds st.names empty_env) _
    (given_any (new_types sc binds st.names empty_env)) (λ new _.
    given_then (λ r. AllItems (DatNamed good) r.0) (DecNamed good) (infer_dats (under new sc) refused binds [] st) _
    (dats_named good (under new sc) refused binds [] st p tt) (λ r k.
    made_types_named good sc.home st.names (equality_choice sc.home st.names r.0) st.names r.0 empty_env k
    (named_nothing good)))

-- ---- exceptions

exceptions_in_named : (good : List ℕ → Bool) (sc : Scope) (binds : List ExPhrase) (made : Env)
    → AllItems (ExSpelt good) binds → NamedEnv good made → Given (NamedEnv good) (infer_exceptions sc binds made)
exceptions_in_named good sc [] made p k = k
exceptions_in_named good sc (bind ∷ binds) made p k =
    given_where (NamedEnv good) (is_one_of reserved_constructors bind.name.text) 34 sc (name_at bind.name) _
    (given_where (NamedEnv good) (is_some (entry bind.name.text (values made))) 40 sc (name_at bind.name) _
    (given_then (λ v. Unit {0}) (NamedEnv good) (exception_of sc bind.body) _ (given_any (exception_of sc bind.body))
    (λ value _. exceptions_in_named good sc binds (with_value bind.name.text value made) p.1
    (named_with_value good bind.name.text value made p.0.0 k))))

pub exceptions_named : (good : List ℕ → Bool) (sc : Scope) (binds : List ExPhrase) → AllItems (ExSpelt good) binds
    → Given (NamedEnv good) (exceptions_of sc binds)
exceptions_named good sc binds p = exceptions_in_named good sc binds empty_env p (named_nothing good)

-- ---- declarations

open_named : (good : List ℕ → Bool) (sc : Scope) (longs : List LongName) (made : Env) → NamedEnv good sc.env
    → NamedEnv good made → Given (NamedEnv good) (infer_open sc longs made)
open_named good sc [] made h k = k
open_named good sc (long ∷ longs) made h k =
    given_then (NamedEnv good) (NamedEnv good) (known sc long (found_at structures long.parts sc.env)) _
    (given_known (NamedEnv good) sc long (found_at structures long.parts sc.env)
    (named_structure_found good long.parts sc.env h))
    (λ env l. open_named good sc longs (modified_by made env) h (named_modified good made env k l))

dec_sized : (good : List ℕ → Bool) (sc : Scope) (at : At) (r : Env × Progress) → DecNamed good r
    → Given (DecNamed good) (sized_dec sc at r)
dec_sized good sc at r h = given_where (DecNamed good) (has_too_large r.1.types.stands r.0) 38 sc at (λ u. gives r) h

mutual
  pub dec_named : (good : List ℕ → Bool) (depth : ℕ) (sc : Scope) (dec : DecPhrase) (st : Progress)
      → DecSpelt good dec → NamedEnv good sc.env → Given (DecNamed good) (infer_dec depth sc dec st)
  dec_named good depth sc (DecPhrase.Val tyvars rules recs at) st p h =
      given_then (λ v. Unit {0}) (DecNamed good) (own_variables sc tyvars rules recs st) _
      (given_any (own_variables sc tyvars rules recs st)) (λ own _.
      let inner : Scope = with_written (as_written own.0) sc in
      given_then (λ b. BoundNamed good b.0 × GroupsNamed good b.1) (DecNamed good)
      (infer_binds depth inner rules [] [] own.1) _ (binds_named good depth inner rules [] [] own.1 p.0 tt tt) (λ b k.
      given_then (λ r. RecsNamed good r.0) (DecNamed good) (infer_rec_pats depth inner recs [] b.0 b.2) _
      (rec_pats_named good depth inner recs [] b.0 b.2 p.1 tt k.0) (λ r l.
      given_then (λ v. Unit {0}) (DecNamed good) (infer_rec_exps depth (under_bound (rec_bound r.0) inner) recs r.0
      r.1) _
      (given_any (infer_rec_exps depth (under_bound (rec_bound r.0) inner) recs r.0 r.1)) (λ u _.
      let groups : List Group = b.1 ++ rec_groups sc.env recs r.0 in
      let kept : ℕ → Bool = is_kept sc u.types.stands in
      given_then (DecNamed good) (DecNamed good) (closed_val sc at kept own.0 groups u) _
      (none_left_in (DecNamed good) sc at (closed_groups kept u.types groups empty_env, u)
      (left_over kept u.types (closed_groups kept u.types groups empty_env) own.0)
      (groups_named good kept u.types groups empty_env
      (items_after (λ (g : Group). BoundNamed good g.1) b.1 (rec_groups sc.env recs r.0) k.1
      (rec_groups_named good sc.env recs r.0 l)) (named_nothing good))) (λ v i.
      dec_sized good sc at v i)))))
  dec_named good depth sc (DecPhrase.Types binds at) st p h =
      given_then (DecNamed good) (DecNamed good) (infer_types sc binds empty_env st) _
      (infer_types_named good sc binds empty_env st p (named_nothing good)) (λ r k. dec_sized good sc at r k)
  dec_named good depth sc (DecPhrase.Datatypes binds at) st p h =
      given_then (DecNamed good) (DecNamed good) (datatypes_of sc reserved_constructors binds st) _
      (datatypes_named good sc reserved_constructors binds st p) (λ r k. dec_sized good sc at r k)
  dec_named good depth sc (DecPhrase.Replication name long at) st p h =
      given_then (NamedEnv good) (DecNamed good) (infer_replication sc name long) _
      (given_then (NamedType good) (NamedEnv good) (known sc long (found_at types long.parts sc.env)) _
      (given_known (NamedType good) sc long (found_at types long.parts sc.env)
      (named_type_found good long.parts sc.env h))
      (λ str k. with_datatype_named good name.text str empty_env p k (named_nothing good)))
      (λ made k. dec_sized good sc at (made, st) k)
  dec_named good depth sc (DecPhrase.Exceptions binds at) st p h =
      given_then (NamedEnv good) (DecNamed good) (exceptions_of sc binds) _ (exceptions_named good sc binds p)
      (λ made k. dec_sized good sc at (made, st) k)
  dec_named good depth sc (DecPhrase.Local hidden shown at) st p h =
      given_then (DecNamed good) (DecNamed good) (infer_dec depth sc hidden st) _
      (dec_named good depth sc hidden st p.0 h) (λ d k.
      given_then (DecNamed good) (DecNamed good) (infer_dec depth (under d.0 sc) shown d.1) _
      (dec_named good depth (under d.0 sc) shown d.1 p.1 (named_modified good sc.env d.0 h k))
      (λ r l. dec_sized good sc at r l))
  dec_named good depth sc (DecPhrase.Open longs at) st p h =
      given_then (NamedEnv good) (DecNamed good) (infer_open sc longs empty_env) _
      (open_named good sc longs empty_env h (named_nothing good)) (λ made k. dec_sized good sc at (made, st) k)
  dec_named good depth sc (DecPhrase.Sequence decs at) st p h = decs_named good depth sc decs st p h
  dec_named good depth sc (DecPhrase.Structures binds at) st p h = tt

  decs_named : (good : List ℕ → Bool) (depth : ℕ) (sc : Scope) (decs : DecPhrases) (st : Progress)
      → DecsSpelt good decs → NamedEnv good sc.env → Given (DecNamed good) (infer_decs depth sc decs st)
  decs_named good depth sc DecPhrases.EndOfDecs st p h = named_nothing good
  decs_named good depth sc (DecPhrases.Dec dec rest) st p h =
      given_then (DecNamed good) (DecNamed good) (infer_dec depth sc dec st) _
      (dec_named good depth sc dec st p.0 h) (λ d k.
      given_then (DecNamed good) (DecNamed good) (infer_decs depth (under d.0 sc) rest d.1) _
      (decs_named good depth (under d.0 sc) rest d.1 p.1 (named_modified good sc.env d.0 h k))
      (λ v l. named_modified good d.0 v.0 k l))
