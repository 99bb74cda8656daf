-- The rules of the core, a clause a rule, each named by its number in the Definition of Standard ML (Revised), section
-- 4.10. Types are guessed. `q` says which type variables are equality variables. A phrase begins at one number and
-- ends at another: the type names that are made in it have the numbers between, and whichever phrase ends first has
-- the lower ones. Rules 5, 7, 37, 40 and 48 are of parentheses, which bare trees don't have, and rule 19 is of
-- `abstype`.
--
-- What the rules of the Definition say of the names of a context isn't asked here: which names a guessed type may hold
-- (rules 14 and 26), and that no name that a `let` makes stands in its type (rule 4). Neither is a type's size.
use Rattle.std.specs.Prelude.{◌≡◌, ℕ, ℤ, ◌+◌, List, [], ◌∷◌, ◌++◌, length, Option, Some, None, Bool, true, false}
use Rattle.sml_trees.specs.declared.name.At.{At}
use Rattle.sml_trees.specs.declared.name.Name.{Name}
use Rattle.sml_trees.specs.declared.name.LongName.{LongName}
use Rattle.semantic_objects.specs.declared.entry.TypeStr.{TypeStr}
use Rattle.semantic_objects.specs.declared.entry.ValueEntry.{ValueEntry}
use Rattle.semantic_objects.specs.Tables.{Table, entry, with_entry}
use Rattle.semantic_objects.specs.Environments.{Env, structures, types, values, empty_env, modified_by, with_type, with_value}
use Rattle.unification.specs.Types.{Ty, Marks}
use Rattle.unification.specs.Instances.{IsInstance}
use Rattle.bare_phrases.specs.Phrases.{TyPhrase, TyFields, TyPhrases, TypPhrase, ConPhrase, DatPhrase, ExBodyPhrase, ExPhrase, PatPhrase, PatFields, ExpPhrase, ExpFields, Rules, DecPhrase, DecPhrases}
use Rattle.static_semantics.specs.BasicTypes.{int_ty, string_ty, char_ty, exn_ty, arrow_ty, record_ty, is_one_of, reserved_names, reserved_constructors}
use Rattle.static_semantics.specs.Inferring.{Scope, under, with_written, with_written_alone, found_at, named, is_named, is_con, stands_for_con, Bound, under_bound}
use Rattle.static_semantics.specs.Nonexpansive.{is_nonexpansive}
use Rattle.static_semantics.specs.TypeInference.{applied_to, numbers, as_written, type_function, plain_type}
use Rattle.static_semantics.specs.PatternInference.{takes_none}
use Rattle.static_semantics.specs.DatatypeInference.{Con, Dat, made_types, with_datatype, is_exception, exception_entry}
use Rattle.static_semantics.specs.CoreInference.{Group, RecPats, rec_bound, rec_groups, is_variable}
use Rattle.static_semantics.specs.RuleConditions.{are_distinct, OfList, type_names, BindsOwn, ClosesVal, types_by, MaximisesEquality}

-- ---- types

mutual
  pub data ElaboratesTy : Scope → TyPhrase → Ty → Type 0 where
    rule_44 : (sc : Scope) (name : Name) (at : At) (ty : Ty)
        → named name.text sc.written ≡ Some ty
        → ElaboratesTy sc (TyPhrase.Var name at) ty
    rule_45 : (sc : Scope) (fields : TyFields) (at : At) (made : Table Ty)
        → ElaboratesTyFields sc fields [] made
        → ElaboratesTy sc (TyPhrase.Record fields at) (record_ty made)
    rule_46 : (sc : Scope) (args : TyPhrases) (long : LongName) (at : At) (found : TypeStr) (tys : List Ty)
        → ElaboratesTys sc args tys
        → found_at types long.parts sc.env ≡ Some found
        → length tys ≡ found.function.arity
        → ElaboratesTy sc (TyPhrase.Named args long at) (applied_to found.function tys)
    rule_47 : (sc : Scope) (from to : TyPhrase) (at : At) (a b : Ty)
        → ElaboratesTy sc from a
        → ElaboratesTy sc to b
        → ElaboratesTy sc (TyPhrase.Arrow from to at) (arrow_ty a b)

  -- fields after others, which are given by label
  pub data ElaboratesTyFields : Scope → TyFields → Table Ty → Table Ty → Type 0 where
    no_ty_fields : (sc : Scope) (made : Table Ty) → ElaboratesTyFields sc TyFields.EndOfFields made made
    rule_49 : (sc : Scope) (label : Name) (ty : TyPhrase) (rest : TyFields) (before after : Table Ty) (t : Ty)
        → entry label.text before ≡ None
        → ElaboratesTy sc ty t
        → ElaboratesTyFields sc rest (with_entry label.text t before) after
        → ElaboratesTyFields sc (TyFields.Field label ty rest) before after

  pub data ElaboratesTys : Scope → TyPhrases → List Ty → Type 0 where
    no_tys : (sc : Scope) → ElaboratesTys sc TyPhrases.EndOfArgs []
    more_tys : (sc : Scope) (ty : TyPhrase) (rest : TyPhrases) (t : Ty) (ts : List Ty)
        → ElaboratesTy sc ty t
        → ElaboratesTys sc rest ts
        → ElaboratesTys sc (TyPhrases.Arg ty rest) (t ∷ ts)

-- a type that may be absent is any type where it is
pub data ElaboratesTyIfAny : Scope → Option TyPhrase → Ty → Type 0 where
  no_ty : (sc : Scope) (t : Ty) → ElaboratesTyIfAny sc None t
  some_ty : (sc : Scope) (ty : TyPhrase) (t : Ty) → ElaboratesTy sc ty t → ElaboratesTyIfAny sc (Some ty) t

-- ---- patterns, with the variables that they bind, in the order in which they stand

mutual
  pub data ElaboratesPat : Marks → Scope → PatPhrase → Bound → Ty → Type 0 where
    rule_32 : (q : Marks) (sc : Scope) (at : At) (ty : Ty) → ElaboratesPat q sc (PatPhrase.Wild at) [] ty
    rule_33_int : (q : Marks) (sc : Scope) (value : ℤ) (at : At)
        → ElaboratesPat q sc (PatPhrase.Int value at) [] int_ty
    rule_33_string : (q : Marks) (sc : Scope) (value : List ℕ) (at : At)
        → ElaboratesPat q sc (PatPhrase.Str value at) [] string_ty
    rule_33_char : (q : Marks) (sc : Scope) (value : ℕ) (at : At)
        → ElaboratesPat q sc (PatPhrase.Char value at) [] char_ty
    rule_34 : (q : Marks) (sc : Scope) (long : LongName) (at : At) (name : List ℕ) (ty : Ty)
        → long.parts ≡ name ∷ []
        → stands_for_con (entry name (values sc.env)) ≡ false
        → is_one_of reserved_names name ≡ false
        → ElaboratesPat q sc (PatPhrase.Long long at) ((name, ty) ∷ []) ty
    rule_35 : (q : Marks) (sc : Scope) (long : LongName) (at : At) (value : ValueEntry) (ty : Ty)
        → found_at values long.parts sc.env ≡ Some value
        → is_con value.status ≡ true
        → takes_none value.scheme.body ≡ true
        → IsInstance q value.scheme ty
        → ElaboratesPat q sc (PatPhrase.Long long at) [] ty
    rule_36 : (q : Marks) (sc : Scope) (fields : PatFields) (at : At) (bound : Bound) (made : Table Ty)
        → ElaboratesPatFields q sc fields [] bound made
        → ElaboratesPat q sc (PatPhrase.Record fields at) bound (record_ty made)
    rule_41 : (q : Marks) (sc : Scope) (long : LongName) (arg : PatPhrase) (at : At) (value : ValueEntry)
        (bound : Bound) (from to : Ty)
        → found_at values long.parts sc.env ≡ Some value
        → is_con value.status ≡ true
        → IsInstance q value.scheme (arrow_ty from to)
        → ElaboratesPat q sc arg bound from
        → ElaboratesPat q sc (PatPhrase.Con long arg at) bound to
    rule_42 : (q : Marks) (sc : Scope) (pat : PatPhrase) (ty : TyPhrase) (at : At) (bound : Bound) (t : Ty)
        → ElaboratesPat q sc pat bound t
        → ElaboratesTy sc ty t
        → ElaboratesPat q sc (PatPhrase.Typed pat ty at) bound t
    rule_43 : (q : Marks) (sc : Scope) (name : Name) (ty : Option TyPhrase) (pat : PatPhrase) (at : At) (bound : Bound)
        (t : Ty)
        → stands_for_con (entry name.text (values sc.env)) ≡ false
        → is_one_of reserved_names name.text ≡ false
        → ElaboratesTyIfAny sc ty t
        → ElaboratesPat q sc pat bound t
        → ElaboratesPat q sc (PatPhrase.As name ty pat at) ((name.text, t) ∷ bound) t

  -- fields after others, which are given by label
  pub data ElaboratesPatFields : Marks → Scope → PatFields → Table Ty → Bound → Table Ty → Type 0 where
    no_pat_fields : (q : Marks) (sc : Scope) (made : Table Ty)
        → ElaboratesPatFields q sc PatFields.EndOfFields made [] made
    rule_39 : (q : Marks) (sc : Scope) (label : Name) (pat : PatPhrase) (rest : PatFields) (before after : Table Ty)
        (bound more : Bound) (t : Ty)
        → entry label.text before ≡ None
        → ElaboratesPat q sc pat bound t
        → ElaboratesPatFields q sc rest (with_entry label.text t before) more after
        → ElaboratesPatFields q sc (PatFields.Field label pat rest) before (bound ++ more) after

-- ---- bindings of types and exceptions

-- the bindings of a `type`, after what those before them bind: each sees the environment before all of them
pub data ElaboratesTypes : Scope → List TypPhrase → Env → Env → Type 0 where
  no_types : (sc : Scope) (made : Env) → ElaboratesTypes sc [] made made
  rule_27 : (sc : Scope) (bind : TypPhrase) (binds : List TypPhrase) (before after : Env) (own : List (List ℕ × ℕ))
      (ty : Ty)
      → OfList bind.tyvars own
      → entry bind.name.text (types before) ≡ None
      → ElaboratesTy (with_written_alone (as_written own) sc) bind.ty ty
      → ElaboratesTypes sc binds (with_type bind.name.text (plain_type (type_function (numbers own) ty)) before) after
      → ElaboratesTypes sc (bind ∷ binds) before after

-- the constructors of one datatype, after those before them in it and in the datatypes before it; none has a name of
-- `refused`
pub data ElaboratesCons : Scope → List (List ℕ) → List ConPhrase → List Con → List Con → Type 0 where
  no_cons : (sc : Scope) (refused : List (List ℕ)) (before : List Con) → ElaboratesCons sc refused [] before []
  rule_29_constant : (sc : Scope) (refused : List (List ℕ)) (con : ConPhrase) (cons : List ConPhrase)
      (before made : List Con)
      → con.arg ≡ None
      → is_one_of refused con.name.text ≡ false
      → is_named con.name.text before ≡ false
      → ElaboratesCons sc refused cons (before ++ (con.name.text, None) ∷ []) made
      → ElaboratesCons sc refused (con ∷ cons) before ((con.name.text, None) ∷ made)
  rule_29_of : (sc : Scope) (refused : List (List ℕ)) (con : ConPhrase) (cons : List ConPhrase)
      (before made : List Con) (ty : TyPhrase) (t : Ty)
      → con.arg ≡ Some ty
      → is_one_of refused con.name.text ≡ false
      → is_named con.name.text before ≡ false
      → ElaboratesTy sc ty t
      → ElaboratesCons sc refused cons (before ++ (con.name.text, Some t) ∷ []) made
      → ElaboratesCons sc refused (con ∷ cons) before ((con.name.text, Some t) ∷ made)

-- the datatypes of a declaration, after those before them in it, in a scope that has the new types
pub data ElaboratesDats : Scope → List (List ℕ) → List DatPhrase → List Con → List Dat → Type 0 where
  no_dats : (sc : Scope) (refused : List (List ℕ)) (before : List Con) → ElaboratesDats sc refused [] before []
  rule_28 : (sc : Scope) (refused : List (List ℕ)) (bind : DatPhrase) (binds : List DatPhrase) (before : List Con)
      (dat : Dat) (dats : List Dat)
      → dat.name ≡ bind.name.text
      → OfList bind.tyvars dat.variables
      → ElaboratesCons (with_written_alone (as_written dat.variables) sc) refused bind.cons before dat.cons
      → ElaboratesDats sc refused binds (before ++ dat.cons) dats
      → ElaboratesDats sc refused (bind ∷ binds) before (dat ∷ dats)

-- the exceptions of a declaration, after what those before them bind
pub data ElaboratesExceptions : Scope → List ExPhrase → Env → Env → Type 0 where
  no_exceptions : (sc : Scope) (made : Env) → ElaboratesExceptions sc [] made made
  rule_30_constant : (sc : Scope) (bind : ExPhrase) (binds : List ExPhrase) (before after : Env)
      → bind.body ≡ ExBodyPhrase.Plain
      → is_one_of reserved_constructors bind.name.text ≡ false
      → entry bind.name.text (values before) ≡ None
      → ElaboratesExceptions sc binds (with_value bind.name.text (exception_entry exn_ty) before) after
      → ElaboratesExceptions sc (bind ∷ binds) before after
  rule_30_of : (sc : Scope) (bind : ExPhrase) (binds : List ExPhrase) (before after : Env) (ty : TyPhrase) (t : Ty)
      → bind.body ≡ ExBodyPhrase.Of ty
      → is_one_of reserved_constructors bind.name.text ≡ false
      → entry bind.name.text (values before) ≡ None
      → ElaboratesTy sc ty t
      → ElaboratesExceptions sc binds (with_value bind.name.text (exception_entry (arrow_ty t exn_ty)) before) after
      → ElaboratesExceptions sc (bind ∷ binds) before after
  rule_31 : (sc : Scope) (bind : ExPhrase) (binds : List ExPhrase) (before after : Env) (long : LongName)
      (value : ValueEntry)
      → bind.body ≡ ExBodyPhrase.Copy long
      → is_one_of reserved_constructors bind.name.text ≡ false
      → entry bind.name.text (values before) ≡ None
      → found_at values long.parts sc.env ≡ Some value
      → is_exception value.status ≡ true
      → ElaboratesExceptions sc binds (with_value bind.name.text value before) after
      → ElaboratesExceptions sc (bind ∷ binds) before after

-- the structures that an `open` names, all in the environment before it
pub data ElaboratesOpen : Scope → List LongName → Env → Env → Type 0 where
  no_structures : (sc : Scope) (made : Env) → ElaboratesOpen sc [] made made
  rule_22_next : (sc : Scope) (long : LongName) (longs : List LongName) (before after env : Env)
      → found_at structures long.parts sc.env ≡ Some env
      → ElaboratesOpen sc longs (modified_by before env) after
      → ElaboratesOpen sc (long ∷ longs) before after

-- ---- expressions, matches and declarations

mutual
  pub data ElaboratesExp : Marks → Scope → ℕ → ExpPhrase → Ty → ℕ → Type 0 where
    rule_1_int : (q : Marks) (sc : Scope) (n : ℕ) (value : ℤ) (at : At)
        → ElaboratesExp q sc n (ExpPhrase.Int value at) int_ty n
    rule_1_string : (q : Marks) (sc : Scope) (n : ℕ) (value : List ℕ) (at : At)
        → ElaboratesExp q sc n (ExpPhrase.Str value at) string_ty n
    rule_1_char : (q : Marks) (sc : Scope) (n value : ℕ) (at : At)
        → ElaboratesExp q sc n (ExpPhrase.Char value at) char_ty n
    rule_2 : (q : Marks) (sc : Scope) (n : ℕ) (long : LongName) (at : At) (value : ValueEntry) (ty : Ty)
        → found_at values long.parts sc.env ≡ Some value
        → IsInstance q value.scheme ty
        → ElaboratesExp q sc n (ExpPhrase.Long long at) ty n
    rule_3 : (q : Marks) (sc : Scope) (n m : ℕ) (fields : ExpFields) (at : At) (made : Table Ty)
        → ElaboratesExpFields q sc n fields [] made m
        → ElaboratesExp q sc n (ExpPhrase.Record fields at) (record_ty made) m
    rule_4 : (q : Marks) (sc : Scope) (n k m : ℕ) (dec : DecPhrase) (body : ExpPhrase) (at : At) (made : Env) (ty : Ty)
        → ElaboratesDec q sc n dec made k
        → ElaboratesExp q (under made sc) k body ty m
        → ElaboratesExp q sc n (ExpPhrase.Let dec body at) ty m
    rule_8 : (q : Marks) (sc : Scope) (n k m : ℕ) (function argument : ExpPhrase) (at : At) (from to : Ty)
        → ElaboratesExp q sc n function (arrow_ty from to) k
        → ElaboratesExp q sc k argument from m
        → ElaboratesExp q sc n (ExpPhrase.App function argument at) to m
    rule_9 : (q : Marks) (sc : Scope) (n m : ℕ) (exp : ExpPhrase) (ty : TyPhrase) (at : At) (t : Ty)
        → ElaboratesExp q sc n exp t m
        → ElaboratesTy sc ty t
        → ElaboratesExp q sc n (ExpPhrase.Typed exp ty at) t m
    rule_10 : (q : Marks) (sc : Scope) (n k m : ℕ) (exp : ExpPhrase) (rules : Rules) (at : At) (ty : Ty)
        → ElaboratesExp q sc n exp ty k
        → ElaboratesMatch q sc k rules exn_ty ty m
        → ElaboratesExp q sc n (ExpPhrase.Handle exp rules at) ty m
    rule_11 : (q : Marks) (sc : Scope) (n m : ℕ) (exp : ExpPhrase) (at : At) (ty : Ty)
        → ElaboratesExp q sc n exp exn_ty m
        → ElaboratesExp q sc n (ExpPhrase.Raise exp at) ty m
    rule_12 : (q : Marks) (sc : Scope) (n m : ℕ) (rules : Rules) (at : At) (from to : Ty)
        → ElaboratesMatch q sc n rules from to m
        → ElaboratesExp q sc n (ExpPhrase.Fn rules at) (arrow_ty from to) m

  -- fields after others, which are given by label
  pub data ElaboratesExpFields : Marks → Scope → ℕ → ExpFields → Table Ty → Table Ty → ℕ → Type 0 where
    no_exp_fields : (q : Marks) (sc : Scope) (n : ℕ) (made : Table Ty)
        → ElaboratesExpFields q sc n ExpFields.EndOfFields made made n
    rule_6 : (q : Marks) (sc : Scope) (n k m : ℕ) (label : Name) (exp : ExpPhrase) (rest : ExpFields)
        (before after : Table Ty) (t : Ty)
        → entry label.text before ≡ None
        → ElaboratesExp q sc n exp t k
        → ElaboratesExpFields q sc k rest (with_entry label.text t before) after m
        → ElaboratesExpFields q sc n (ExpFields.Field label exp rest) before after m

  -- a match, by the type that it takes and the type that it gives
  pub data ElaboratesMatch : Marks → Scope → ℕ → Rules → Ty → Ty → ℕ → Type 0 where
    no_rules : (q : Marks) (sc : Scope) (n : ℕ) (from to : Ty) → ElaboratesMatch q sc n Rules.EndOfRules from to n
    rule_13_14 : (q : Marks) (sc : Scope) (n k m : ℕ) (pat : PatPhrase) (exp : ExpPhrase) (rest : Rules) (bound : Bound)
        (from to : Ty)
        → ElaboratesPat q sc pat bound from
        → are_distinct bound ≡ true
        → ElaboratesExp q (under_bound bound sc) n exp to k
        → ElaboratesMatch q sc k rest from to m
        → ElaboratesMatch q sc n (Rules.Rule pat exp rest) from to m

  -- plain bindings: for each whether its right side is nonexpansive, and its variables
  pub data ElaboratesBinds : Marks → Scope → ℕ → Rules → List Group → ℕ → Type 0 where
    no_binds : (q : Marks) (sc : Scope) (n : ℕ) → ElaboratesBinds q sc n Rules.EndOfRules [] n
    rule_25 : (q : Marks) (sc : Scope) (n k m : ℕ) (pat : PatPhrase) (exp : ExpPhrase) (rest : Rules) (bound : Bound)
        (ty : Ty) (groups : List Group)
        → ElaboratesPat q sc pat bound ty
        → ElaboratesExp q sc n exp ty k
        → ElaboratesBinds q sc k rest groups m
        → ElaboratesBinds q sc n (Rules.Rule pat exp rest) ((is_nonexpansive sc.env exp, bound) ∷ groups) m

  -- `rec` bindings in a scope, whose right sides are in the scope with the variables of all of them: each pattern is a
  -- variable, with or without constraints
  pub data ElaboratesRecs : Marks → Scope → Scope → ℕ → Rules → RecPats → ℕ → Type 0 where
    no_recs : (q : Marks) (sc inner : Scope) (n : ℕ) → ElaboratesRecs q sc inner n Rules.EndOfRules [] n
    rule_26 : (q : Marks) (sc inner : Scope) (n k m : ℕ) (pat : PatPhrase) (exp : ExpPhrase) (rest : Rules)
        (bound : Bound) (ty : Ty) (rows : RecPats)
        → ElaboratesPat q sc pat bound ty
        → is_variable sc.env pat ≡ true
        → ElaboratesExp q inner n exp ty k
        → ElaboratesRecs q sc inner k rest rows m
        → ElaboratesRecs q sc inner n (Rules.Rule pat exp rest) ((ty, bound) ∷ rows) m

  pub data ElaboratesDec : Marks → Scope → ℕ → DecPhrase → Env → ℕ → Type 0 where
    rule_15 : (q r : Marks) (sc : Scope) (n k m : ℕ) (tyvars : List Name) (rules recs : Rules) (at : At)
        (own : List (List ℕ × ℕ)) (groups : List Group) (rows : RecPats) (made : Env)
        → BindsOwn r sc tyvars rules recs own
        → ElaboratesBinds r (with_written (as_written own) sc) n rules groups k
        → ElaboratesRecs r (with_written (as_written own) sc)
        (under_bound (rec_bound rows) (with_written (as_written own) sc)) k recs rows m
        → ClosesVal q r sc own (groups ++ rec_groups sc.env recs rows) made
        → ElaboratesDec q sc n (DecPhrase.Val tyvars rules recs at) made m
    rule_16 : (q : Marks) (sc : Scope) (n : ℕ) (binds : List TypPhrase) (at : At) (made : Env)
        → ElaboratesTypes sc binds empty_env made
        → ElaboratesDec q sc n (DecPhrase.Types binds at) made n
    rule_17 : (q : Marks) (sc : Scope) (n m : ℕ) (binds : List DatPhrase) (at : At) (choice : List Bool)
        (dats : List Dat)
        → are_distinct (type_names binds) ≡ true
        → length choice ≡ length binds
        → ElaboratesDats (under (types_by sc.home choice binds n empty_env) sc) reserved_constructors binds [] dats
        → MaximisesEquality sc.home n dats choice
        → m ≡ n + length binds
        → ElaboratesDec q sc n (DecPhrase.Datatypes binds at) (made_types sc.home n choice n dats empty_env) m
    rule_18 : (q : Marks) (sc : Scope) (n : ℕ) (name : Name) (long : LongName) (at : At) (str : TypeStr)
        → found_at types long.parts sc.env ≡ Some str
        → ElaboratesDec q sc n (DecPhrase.Replication name long at) (with_datatype name.text str empty_env) n
    rule_20 : (q : Marks) (sc : Scope) (n : ℕ) (binds : List ExPhrase) (at : At) (made : Env)
        → ElaboratesExceptions sc binds empty_env made
        → ElaboratesDec q sc n (DecPhrase.Exceptions binds at) made n
    rule_21 : (q : Marks) (sc : Scope) (n k m : ℕ) (hidden shown : DecPhrase) (at : At) (first made : Env)
        → ElaboratesDec q sc n hidden first k
        → ElaboratesDec q (under first sc) k shown made m
        → ElaboratesDec q sc n (DecPhrase.Local hidden shown at) made m
    rule_22 : (q : Marks) (sc : Scope) (n : ℕ) (longs : List LongName) (at : At) (made : Env)
        → ElaboratesOpen sc longs empty_env made
        → ElaboratesDec q sc n (DecPhrase.Open longs at) made n
    rules_23_24 : (q : Marks) (sc : Scope) (n m : ℕ) (decs : DecPhrases) (at : At) (made : Env)
        → ElaboratesDecs q sc n decs made m
        → ElaboratesDec q sc n (DecPhrase.Sequence decs at) made m

  pub data ElaboratesDecs : Marks → Scope → ℕ → DecPhrases → Env → ℕ → Type 0 where
    rule_23 : (q : Marks) (sc : Scope) (n : ℕ) → ElaboratesDecs q sc n DecPhrases.EndOfDecs empty_env n
    rule_24 : (q : Marks) (sc : Scope) (n k m : ℕ) (dec : DecPhrase) (rest : DecPhrases) (first second : Env)
        → ElaboratesDec q sc n dec first k
        → ElaboratesDecs q (under first sc) k rest second m
        → ElaboratesDecs q sc n (DecPhrases.Dec dec rest) (modified_by first second) m
