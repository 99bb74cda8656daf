-- What `rec` and `fun` bind (The Definition of Standard ML, section 2.9: for each value binding `pat = exp` within
-- `rec`, `exp` must be of the form `fn match`; the function-value bindings of appendix A obey this by themselves, as
-- each has an argument). A function may stand in parentheses and have types.
use Rattle.std.specs.Prelude.{◌≡◌, ℕ, List, [], ◌∷◌, Bool, true, false, ◌&&◌, ◌==◌, if◌then◌else◌}
use Rattle.std.specs.List.{list_all}
use Rattle.sml_trees.specs.declared.full_exp.FullHead.{FullHead}
use Rattle.sml_trees.specs.declared.full_exp.FullHead.TheVariants as head
use Rattle.sml_trees.specs.declared.full_exp.FullDec.{FullDec}
use Rattle.sml_trees.specs.declared.full_exp.FullDec.TheOpen.{FullDec-F, FullExp-F, FullExpItem-F, FullClause-F, FullExpField-F, FullFunBind-F, FullRule-F, FullValBind-F}
use Rattle.sml_trees.specs.declared.full_exp.FullDec.TheFolds.{fold-FullDec, fold-FullExp, fold-FullExpItem, fold-FullClause, fold-FullExpField, fold-FullFunBind, fold-FullRule, fold-FullValBind}
use Rattle.sml_trees.specs.declared.full_exp.FullExp.{FullExp}
use Rattle.sml_trees.specs.declared.full_exp.FullExpItem.{FullExpItem}
use Rattle.sml_trees.specs.declared.full_exp.FullClause.{FullClause}
use Rattle.sml_trees.specs.declared.full_exp.FullExpField.{FullExpField}
use Rattle.sml_trees.specs.declared.full_exp.FullFunBind.{FullFunBind}
use Rattle.sml_trees.specs.declared.full_exp.FullRule.{FullRule}
use Rattle.sml_trees.specs.declared.full_exp.FullValBind.{FullValBind}
use Rattle.sml_trees.specs.declared.full_str.FullStrBind.{FullStrBind}
use Rattle.sml_trees.specs.declared.full_str.FullStrDec.{FullStrDec}
use Rattle.sml_trees.specs.declared.full_str.FullStrDec.TheOpen.{FullStrDec-F, FullStrExp-F, FullStrBind-F}
use Rattle.sml_trees.specs.declared.full_str.FullStrDec.TheFolds.{fold-FullStrDec, fold-FullStrExp, fold-FullStrBind}
use Rattle.sml_trees.specs.declared.full_str.FullStrExp.{FullStrExp}
use Rattle.sml_trees.specs.declared.full_unit.FullFunctorBind.{FullFunctorBind}
use Rattle.sml_trees.specs.declared.full_unit.FullTopDec.{FullTopDec}
use Rattle.sml_trees.specs.declared.full_unit.FullTopDec.TheVariants as top
use Rattle.sml_trees.specs.declared.full_unit.FullUnit.{FullUnit}
use Rattle.sml_trees.specs.CoreLets.{all_true}

-- of an expression: whether it is a function, and whether what is bound in it is so
pub record ExpFacts : Type 0 where
  pub function : Bool
  pub sound : Bool

-- of a binding: how many `rec` stand before it; and of its right side the same
pub record BindFacts : Type 0 where
  pub recs : ℕ
  pub function : Bool
  pub sound : Bool

-- of a clause: whether its head has an argument, and whether what is bound in its body is so
pub record ClauseFacts : Type 0 where
  pub takes : Bool
  pub sound : Bool

abbrev pub is_sound : ExpFacts → Bool
is_sound exp = exp.sound

abbrev pub is_sound_bind : BindFacts → Bool
is_sound_bind bind = bind.sound

abbrev pub is_function_bind : BindFacts → Bool
is_function_bind bind = bind.function

abbrev pub is_sound_clause : ClauseFacts → Bool
is_sound_clause clause = clause.sound

abbrev pub all_sound : List ExpFacts → Bool
all_sound = list_all is_sound

-- an expression of another form
abbrev pub other : Bool → ExpFacts
other sound = record { function = false; sound = sound }

-- ---- functions

abbrev pub has_some : {A : Type 0} → List A → Bool
has_some [] = false
has_some (x ∷ xs) = true

abbrev pub takes_argument : FullHead → Bool
takes_argument (head.Prefix called args) = has_some args
takes_argument (head.Infix left called right) = true
takes_argument (head.ParenInfix left called right args) = true

-- from the first `rec` on each right side is a function
abbrev pub recs_bind_functions : List BindFacts → Bool
recs_bind_functions [] = true
recs_bind_functions (bind ∷ binds) =
    if bind.recs == 0 then recs_bind_functions binds else list_all is_function_bind (bind ∷ binds)

-- the first clause has an argument
abbrev pub first_takes : List ClauseFacts → Bool
first_takes [] = false
first_takes (clause ∷ clauses) = clause.takes

-- ---- each node, over what is known of its parts

abbrev pub dec_step : FullDec-F Bool ExpFacts Bool ClauseFacts Bool Bool Bool BindFacts → Bool
dec_step (FullDec-F.Val tyvars binds at) = recs_bind_functions binds && list_all is_sound_bind binds
dec_step (FullDec-F.Fun tyvars binds at) = all_true binds
dec_step (FullDec-F.Types binds at) = true
dec_step (FullDec-F.Datatypes binds at) = true
dec_step (FullDec-F.Replication name long at) = true
dec_step (FullDec-F.Exceptions binds at) = true
dec_step (FullDec-F.Local hidden decs at) = all_true hidden && all_true decs
dec_step (FullDec-F.Open longs at) = true
dec_step (FullDec-F.Infix strength names at) = true
dec_step (FullDec-F.Infixr strength names at) = true
dec_step (FullDec-F.Nonfix names at) = true

abbrev pub exp_step : FullExp-F Bool ExpFacts Bool ClauseFacts Bool Bool Bool BindFacts → ExpFacts
exp_step (FullExp-F.Constant value at) = other true
exp_step (FullExp-F.Long id at) = other true
exp_step (FullExp-F.Record fields at) = other (all_true fields)
exp_step (FullExp-F.Unit at) = other true
exp_step (FullExp-F.Tuple parts at) = other (all_sound parts)
exp_step (FullExp-F.Sequence exps at) = other (all_sound exps)
exp_step (FullExp-F.Paren inner at) = inner
exp_step (FullExp-F.List items at) = other (all_sound items)
exp_step (FullExp-F.Let decs exps at) = other (all_true decs && all_sound exps)
exp_step (FullExp-F.Run items at) = other (all_true items)
exp_step (FullExp-F.Typed inner ty at) = inner
exp_step (FullExp-F.AndAlso left right at) = other (left.sound && right.sound)
exp_step (FullExp-F.OrElse left right at) = other (left.sound && right.sound)
exp_step (FullExp-F.Handle inner rules at) = other (inner.sound && all_true rules)
exp_step (FullExp-F.Raise inner at) = other inner.sound
exp_step (FullExp-F.If test right wrong at) = other (test.sound && (right.sound && wrong.sound))
exp_step (FullExp-F.While test body at) = other (test.sound && body.sound)
exp_step (FullExp-F.Case subject rules at) = other (subject.sound && all_true rules)
exp_step (FullExp-F.Fn rules at) = record { function = true; sound = all_true rules }

abbrev pub item_step : FullExpItem-F Bool ExpFacts Bool ClauseFacts Bool Bool Bool BindFacts → Bool
item_step (FullExpItem-F.Atom exp) = exp.sound
item_step (FullExpItem-F.Operator called fixity) = true

abbrev pub clause_step : FullClause-F Bool ExpFacts Bool ClauseFacts Bool Bool Bool BindFacts → ClauseFacts
clause_step clause = record { takes = takes_argument clause.head; sound = is_sound clause.body }

abbrev pub field_step : FullExpField-F Bool ExpFacts Bool ClauseFacts Bool Bool Bool BindFacts → Bool
field_step field = is_sound field.exp

abbrev pub fun_step : FullFunBind-F Bool ExpFacts Bool ClauseFacts Bool Bool Bool BindFacts → Bool
fun_step bind = first_takes bind.clauses && list_all is_sound_clause bind.clauses

abbrev pub rule_step : FullRule-F Bool ExpFacts Bool ClauseFacts Bool Bool Bool BindFacts → Bool
rule_step rule = is_sound rule.exp

abbrev pub val_step : FullValBind-F Bool ExpFacts Bool ClauseFacts Bool Bool Bool BindFacts → BindFacts
val_step bind = record { recs = bind.recs; function = (bind.exp).function; sound = (bind.exp).sound }

-- ---- whole trees of the core: what `rec` and `fun` bind in them are functions

-- a declaration of the core
unfoldable pub dec_binds : FullDec → Bool
dec_binds = fold-FullDec Bool ExpFacts Bool ClauseFacts Bool Bool Bool BindFacts
    dec_step exp_step item_step clause_step field_step fun_step rule_step val_step

-- .. an expression
unfoldable pub exp_binds : FullExp → ExpFacts
exp_binds = fold-FullExp Bool ExpFacts Bool ClauseFacts Bool Bool Bool BindFacts
    dec_step exp_step item_step clause_step field_step fun_step rule_step val_step

-- .. a part of a run
unfoldable pub item_binds : FullExpItem → Bool
item_binds = fold-FullExpItem Bool ExpFacts Bool ClauseFacts Bool Bool Bool BindFacts
    dec_step exp_step item_step clause_step field_step fun_step rule_step val_step

-- .. a clause
unfoldable pub clause_binds : FullClause → ClauseFacts
clause_binds = fold-FullClause Bool ExpFacts Bool ClauseFacts Bool Bool Bool BindFacts
    dec_step exp_step item_step clause_step field_step fun_step rule_step val_step

-- .. a field of a record
unfoldable pub field_binds : FullExpField → Bool
field_binds = fold-FullExpField Bool ExpFacts Bool ClauseFacts Bool Bool Bool BindFacts
    dec_step exp_step item_step clause_step field_step fun_step rule_step val_step

-- .. a function
unfoldable pub fun_binds : FullFunBind → Bool
fun_binds = fold-FullFunBind Bool ExpFacts Bool ClauseFacts Bool Bool Bool BindFacts
    dec_step exp_step item_step clause_step field_step fun_step rule_step val_step

-- .. a rule
unfoldable pub rule_binds : FullRule → Bool
rule_binds = fold-FullRule Bool ExpFacts Bool ClauseFacts Bool Bool Bool BindFacts
    dec_step exp_step item_step clause_step field_step fun_step rule_step val_step

-- .. a binding of a `val`
unfoldable pub val_binds : FullValBind → BindFacts
val_binds = fold-FullValBind Bool ExpFacts Bool ClauseFacts Bool Bool Bool BindFacts
    dec_step exp_step item_step clause_step field_step fun_step rule_step val_step

-- ---- structures and units

abbrev pub str_dec_step : FullStrDec-F Bool Bool Bool → Bool
str_dec_step (FullStrDec-F.Core dec) = dec_binds dec
str_dec_step (FullStrDec-F.Structures binds at) = all_true binds
str_dec_step (FullStrDec-F.Local hidden decs at) = all_true hidden && all_true decs

abbrev pub str_step : FullStrExp-F Bool Bool Bool → Bool
str_step (FullStrExp-F.Struct decs at) = all_true decs
str_step (FullStrExp-F.Named long at) = true
str_step (FullStrExp-F.Transparent inner sig at) = inner
str_step (FullStrExp-F.Opaque inner sig at) = inner
str_step (FullStrExp-F.Functor name arg at) = arg
str_step (FullStrExp-F.FunctorOfDecs name decs begin at) = all_true decs
str_step (FullStrExp-F.Within decs inner at) = all_true decs && inner

abbrev pub str_bind_step : FullStrBind-F Bool Bool Bool → Bool
str_bind_step bind = bind.body

-- a declaration in a structure
unfoldable pub str_dec_binds : FullStrDec → Bool
str_dec_binds = fold-FullStrDec Bool Bool Bool str_dec_step str_step str_bind_step

-- .. a structure expression
unfoldable pub str_binds : FullStrExp → Bool
str_binds = fold-FullStrExp Bool Bool Bool str_dec_step str_step str_bind_step

-- .. a structure that is bound
unfoldable pub str_bind_binds : FullStrBind → Bool
str_bind_binds = fold-FullStrBind Bool Bool Bool str_dec_step str_step str_bind_step

abbrev pub functor_binds : FullFunctorBind → Bool
functor_binds bind = str_binds bind.body

abbrev pub topdec_binds : FullTopDec → Bool
topdec_binds (top.Structures binds at) = list_all str_bind_binds binds
topdec_binds (top.Signatures binds at) = true
topdec_binds (top.Functors binds at) = list_all functor_binds binds
topdec_binds (top.Funsigs binds at) = true

-- a unit
abbrev pub HasFunctions : FullUnit → Type 0
HasFunctions unit = list_all topdec_binds unit.topdecs ≡ true
