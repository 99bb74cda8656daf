-- Where a bare tree declares structures. The declarations in an expression are of the core (The Definition of Standard
-- ML (Revised), figure 4: `let dec in exp end`), and those in a structure may declare structures too (figure 6:
-- `let strdec in strexp end`). Bare trees have one type for both, so this says which of them a source may have.
use Rattle.std.specs.Prelude.{◌≡◌, Bool, true, false, ◌&&◌, List}
use Rattle.std.specs.List.{list_all}
use Rattle.sml_trees.specs.declared.exp.Dec.{Dec}
use Rattle.sml_trees.specs.declared.exp.Dec.TheOpen.{Dec-F, Exp-F, StrExp-F, ExpField-F, Rule-F, StrBind-F}
use Rattle.sml_trees.specs.declared.exp.Dec.TheFolds.{fold-Dec, fold-Exp, fold-StrExp, fold-StrBind}
use Rattle.sml_trees.specs.declared.exp.Exp.{Exp}
use Rattle.sml_trees.specs.declared.exp.StrBind.{StrBind}
use Rattle.sml_trees.specs.declared.exp.StrExp.{StrExp}
use Rattle.sml_trees.specs.declared.unit.BareUnit.{BareUnit}
use Rattle.sml_trees.specs.declared.unit.FunBind.{FunBind}
use Rattle.sml_trees.specs.declared.unit.TopDec.{TopDec}
use Rattle.sml_trees.specs.declared.unit.TopDec.TheVariants as top

-- of a declaration: whether no structure is declared anywhere in it, and whether none is in an expression of it
pub record DecCore : Type 0 where
  pub whole : Bool
  pub lets : Bool

-- the same of both
abbrev pub either_core : Bool → DecCore
either_core core = record { whole = core; lets = core }

abbrev pub lets_of : DecCore → Bool
lets_of dec = dec.lets

abbrev pub whole_of : DecCore → Bool
whole_of dec = dec.whole

abbrev pub all_true : List Bool → Bool
all_true = list_all (λ b. b)

-- ---- each node, over what is known of its parts: of an expression, a field, a rule that no structure is declared in
-- it, and of a structure that none is in an expression of it

abbrev pub rule_core : Rule-F DecCore Bool Bool Bool Bool Bool → Bool
rule_core rule = rule.exp

abbrev pub exp_field_core : ExpField-F DecCore Bool Bool Bool Bool Bool → Bool
exp_field_core field = field.exp

abbrev pub exp_core : Exp-F DecCore Bool Bool Bool Bool Bool → Bool
exp_core (Exp-F.Int a at) = true
exp_core (Exp-F.Str a at) = true
exp_core (Exp-F.Char a at) = true
exp_core (Exp-F.Long a at) = true
exp_core (Exp-F.Record fields at) = all_true fields
exp_core (Exp-F.Let dec body at) = dec.whole && body
exp_core (Exp-F.App function argument at) = function && argument
exp_core (Exp-F.Typed exp ty at) = exp
exp_core (Exp-F.Handle exp rules at) = exp && all_true rules
exp_core (Exp-F.Raise exp at) = exp
exp_core (Exp-F.Fn rules at) = all_true rules

abbrev pub dec_core : Dec-F DecCore Bool Bool Bool Bool Bool → DecCore
dec_core (Dec-F.Val tyvars rules recs at) = either_core (all_true rules && all_true recs)
dec_core (Dec-F.Types a at) = either_core true
dec_core (Dec-F.Datatypes a at) = either_core true
dec_core (Dec-F.Replication a b at) = either_core true
dec_core (Dec-F.Exceptions a at) = either_core true
dec_core (Dec-F.Local hidden shown at) =
    record { whole = hidden.whole && shown.whole; lets = hidden.lets && shown.lets }
dec_core (Dec-F.Open a at) = either_core true
dec_core (Dec-F.Sequence decs at) = record { whole = list_all whole_of decs; lets = list_all lets_of decs }
dec_core (Dec-F.Structures binds at) = record { whole = false; lets = all_true binds }

abbrev pub str_core : StrExp-F DecCore Bool Bool Bool Bool Bool → Bool
str_core (StrExp-F.Struct dec at) = dec.lets
str_core (StrExp-F.Named a at) = true
str_core (StrExp-F.Transparent str sig at) = str
str_core (StrExp-F.Opaque str sig at) = str
str_core (StrExp-F.Functor a str at) = str
str_core (StrExp-F.Within dec str at) = dec.lets && str

abbrev pub str_bind_core : StrBind-F DecCore Bool Bool Bool Bool Bool → Bool
str_bind_core bind = bind.body

-- ---- whole trees

-- of a declaration
abbrev pub core_of_dec : Dec → DecCore
core_of_dec = fold-Dec DecCore Bool Bool Bool Bool Bool
    dec_core exp_core str_core exp_field_core rule_core str_bind_core

-- whether no structure is declared in an expression
abbrev pub core_of_exp : Exp → Bool
core_of_exp = fold-Exp DecCore Bool Bool Bool Bool Bool
    dec_core exp_core str_core exp_field_core rule_core str_bind_core

-- whether no structure is declared in an expression of a structure
abbrev pub core_of_str : StrExp → Bool
core_of_str = fold-StrExp DecCore Bool Bool Bool Bool Bool
    dec_core exp_core str_core exp_field_core rule_core str_bind_core

abbrev pub core_of_str_bind : StrBind → Bool
core_of_str_bind = fold-StrBind DecCore Bool Bool Bool Bool Bool
    dec_core exp_core str_core exp_field_core rule_core str_bind_core

abbrev pub core_of_fun_bind : FunBind → Bool
core_of_fun_bind bind = core_of_str bind.body

abbrev pub core_of_topdec : TopDec → Bool
core_of_topdec (top.Structures binds at) = list_all core_of_str_bind binds
core_of_topdec (top.Signatures binds at) = true
core_of_topdec (top.Functors binds at) = list_all core_of_fun_bind binds
core_of_topdec (top.Funsigs binds at) = true

-- no structure is declared in an expression of the unit
abbrev pub HasCoreLets : BareUnit → Type 0
HasCoreLets unit = list_all core_of_topdec unit.topdecs ≡ true
