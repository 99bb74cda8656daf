-- Which type variables stand unguarded in a `val`: in its patterns and expressions, and not in a `val` inside them.
-- The Definition, section 4.6. `type` and `datatype` bindings hold none, since they see their own lists alone.
use Rattle.std.specs.Prelude.{ℕ, ltb, List, [], ◌∷◌, ◌++◌, Option, Some, None, Bool, ◌||◌, ◌&&◌, cond, eqb}
use Rattle.sml_trees.specs.declared.name.Name.{Name}
use Rattle.bare_phrases.specs.Phrases.{TyPhrase, TyFields, TyPhrases, ExBodyPhrase, ExPhrase, PatPhrase, PatFields, ExpPhrase, ExpFields, Rules, DecPhrase, DecPhrases}
use Rattle.static_semantics.specs.BasicTypes.{is_one_of}

-- in a type
abbrev mutual
  pub tyvars_of_ty : TyPhrase → List Name
  tyvars_of_ty (TyPhrase.Var name at) = name ∷ []
  tyvars_of_ty (TyPhrase.Record fields at) = tyvars_of_ty_fields fields
  tyvars_of_ty (TyPhrase.Named args long at) = tyvars_of_tys args
  tyvars_of_ty (TyPhrase.Arrow from to at) = tyvars_of_ty from ++ tyvars_of_ty to

  pub tyvars_of_ty_fields : TyFields → List Name
  tyvars_of_ty_fields TyFields.EndOfFields = []
  tyvars_of_ty_fields (TyFields.Field label ty rest) = tyvars_of_ty ty ++ tyvars_of_ty_fields rest

  pub tyvars_of_tys : TyPhrases → List Name
  tyvars_of_tys TyPhrases.EndOfArgs = []
  tyvars_of_tys (TyPhrases.Arg ty rest) = tyvars_of_ty ty ++ tyvars_of_tys rest

abbrev pub tyvars_of_optional : Option TyPhrase → List Name
tyvars_of_optional None = []
tyvars_of_optional (Some ty) = tyvars_of_ty ty

-- in a pattern
abbrev mutual
  pub tyvars_of_pat : PatPhrase → List Name
  tyvars_of_pat (PatPhrase.Wild at) = []
  tyvars_of_pat (PatPhrase.Int value at) = []
  tyvars_of_pat (PatPhrase.Str value at) = []
  tyvars_of_pat (PatPhrase.Char value at) = []
  tyvars_of_pat (PatPhrase.Long long at) = []
  tyvars_of_pat (PatPhrase.Record fields at) = tyvars_of_pat_fields fields
  tyvars_of_pat (PatPhrase.Con long arg at) = tyvars_of_pat arg
  tyvars_of_pat (PatPhrase.Typed pat ty at) = tyvars_of_pat pat ++ tyvars_of_ty ty
  tyvars_of_pat (PatPhrase.As name ty pat at) = tyvars_of_optional ty ++ tyvars_of_pat pat

  pub tyvars_of_pat_fields : PatFields → List Name
  tyvars_of_pat_fields PatFields.EndOfFields = []
  tyvars_of_pat_fields (PatFields.Field label pat rest) = tyvars_of_pat pat ++ tyvars_of_pat_fields rest

abbrev pub tyvars_of_ex_body : ExBodyPhrase → List Name
tyvars_of_ex_body ExBodyPhrase.Plain = []
tyvars_of_ex_body (ExBodyPhrase.Of ty) = tyvars_of_ty ty
tyvars_of_ex_body (ExBodyPhrase.Copy long) = []

abbrev pub tyvars_of_exceptions : List ExPhrase → List Name
tyvars_of_exceptions [] = []
tyvars_of_exceptions (bind ∷ binds) = tyvars_of_ex_body bind.body ++ tyvars_of_exceptions binds

-- unguarded in an expression, in rules, in a declaration
abbrev mutual
  pub tyvars_of_exp : ExpPhrase → List Name
  tyvars_of_exp (ExpPhrase.Int value at) = []
  tyvars_of_exp (ExpPhrase.Str value at) = []
  tyvars_of_exp (ExpPhrase.Char value at) = []
  tyvars_of_exp (ExpPhrase.Long long at) = []
  tyvars_of_exp (ExpPhrase.Record fields at) = tyvars_of_exp_fields fields
  tyvars_of_exp (ExpPhrase.Let dec body at) = tyvars_of_dec dec ++ tyvars_of_exp body
  tyvars_of_exp (ExpPhrase.App function argument at) = tyvars_of_exp function ++ tyvars_of_exp argument
  tyvars_of_exp (ExpPhrase.Typed exp ty at) = tyvars_of_exp exp ++ tyvars_of_ty ty
  tyvars_of_exp (ExpPhrase.Handle exp rules at) = tyvars_of_exp exp ++ tyvars_of_rules rules
  tyvars_of_exp (ExpPhrase.Raise exp at) = tyvars_of_exp exp
  tyvars_of_exp (ExpPhrase.Fn rules at) = tyvars_of_rules rules

  pub tyvars_of_exp_fields : ExpFields → List Name
  tyvars_of_exp_fields ExpFields.EndOfFields = []
  tyvars_of_exp_fields (ExpFields.Field label exp rest) = tyvars_of_exp exp ++ tyvars_of_exp_fields rest

  pub tyvars_of_rules : Rules → List Name
  tyvars_of_rules Rules.EndOfRules = []
  tyvars_of_rules (Rules.Rule pat exp rest) = tyvars_of_pat pat ++ (tyvars_of_exp exp ++ tyvars_of_rules rest)

  pub tyvars_of_dec : DecPhrase → List Name
  tyvars_of_dec (DecPhrase.Val tyvars rules recs at) = []
  tyvars_of_dec (DecPhrase.Types binds at) = []
  tyvars_of_dec (DecPhrase.Datatypes binds at) = []
  tyvars_of_dec (DecPhrase.Replication name long at) = []
  tyvars_of_dec (DecPhrase.Exceptions binds at) = tyvars_of_exceptions binds
  tyvars_of_dec (DecPhrase.Local hidden shown at) = tyvars_of_dec hidden ++ tyvars_of_dec shown
  tyvars_of_dec (DecPhrase.Open longs at) = []
  tyvars_of_dec (DecPhrase.Sequence decs at) = tyvars_of_decs decs
  tyvars_of_dec (DecPhrase.Structures binds at) = []

  pub tyvars_of_decs : DecPhrases → List Name
  tyvars_of_decs DecPhrases.EndOfDecs = []
  tyvars_of_decs (DecPhrases.Dec dec rest) = tyvars_of_dec dec ++ tyvars_of_decs rest

-- ---- in the order of their first places in the source

abbrev pub stands_before : Name → Name → Bool
stands_before a b = ltb a.line b.line || (eqb a.line b.line && ltb a.col b.col)

-- one more name among names in the order of their places, in front of those at its own place
abbrev pub placed_among : Name → List Name → List Name
placed_among x [] = x ∷ []
placed_among x (y ∷ ys) = cond (stands_before y x) (y ∷ placed_among x ys) (x ∷ y ∷ ys)

abbrev pub by_place : List Name → List Name
by_place [] = []
by_place (x ∷ xs) = placed_among x (by_place xs)

-- the texts of names, each once
abbrev pub texts_once : List (List ℕ) → List Name → List (List ℕ)
texts_once met [] = []
texts_once met (x ∷ xs) = cond (is_one_of met x.text) (texts_once met xs) (x.text ∷ texts_once (x.text ∷ met) xs)

-- the type variables that stand unguarded in a `val` with these bindings, by first place
abbrev pub written_in : Rules → Rules → List (List ℕ)
written_in rules recs = texts_once [] (by_place (tyvars_of_rules rules ++ tyvars_of_rules recs))
