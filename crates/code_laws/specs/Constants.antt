-- Bare units whose constants fit: each integer in 64 bits with a sign, and each character in a byte.
use Rattle.std.specs.Prelude.{◌≡◌, ℕ, ◌^◌, ℤ, pos, negsuc, Bool, true, ◌&&◌, nat_lt}
use Rattle.std.specs.List.{list_all}
use Rattle.sml_trees.specs.CoreLets.{all_true}
use Rattle.sml_trees.specs.declared.pat.Pat.{Pat}
use Rattle.sml_trees.specs.declared.pat.Pat.TheOpen.{Pat-F, PatField-F}
use Rattle.sml_trees.specs.declared.pat.Pat.TheFolds.{fold-Pat, fold-PatField}
use Rattle.sml_trees.specs.declared.pat.PatField.{PatField}
use Rattle.sml_trees.specs.declared.exp.Dec.{Dec}
use Rattle.sml_trees.specs.declared.exp.Dec.TheOpen.{Dec-F, Exp-F, StrExp-F, ExpField-F, Rule-F, StrBind-F}
use Rattle.sml_trees.specs.declared.exp.Dec.TheFolds.{fold-Dec, fold-Exp, fold-StrExp, fold-ExpField, fold-Rule, fold-StrBind}
use Rattle.sml_trees.specs.declared.exp.Exp.{Exp}
use Rattle.sml_trees.specs.declared.exp.ExpField.{ExpField}
use Rattle.sml_trees.specs.declared.exp.Rule.{Rule}
use Rattle.sml_trees.specs.declared.exp.StrBind.{StrBind}
use Rattle.sml_trees.specs.declared.exp.StrExp.{StrExp}
use Rattle.sml_trees.specs.declared.unit.BareUnit.{BareUnit}
use Rattle.sml_trees.specs.declared.unit.FunBind.{FunBind}
use Rattle.sml_trees.specs.declared.unit.TopDec.{TopDec}
use Rattle.sml_trees.specs.declared.unit.TopDec.TheVariants as top

-- ---- constants

-- whether an integer fits in 64 bits with a sign
abbrev pub fits_int : ℤ → Bool
fits_int (pos n) = nat_lt n (2 ^ 63)
fits_int (negsuc n) = nat_lt n (2 ^ 63)

-- whether a number is a byte
abbrev pub fits_byte : ℕ → Bool
fits_byte n = nat_lt n 256

-- ---- patterns

abbrev pub pat_fit : Pat-F Bool Bool → Bool
pat_fit (Pat-F.Wild at) = true
pat_fit (Pat-F.Int n at) = fits_int n
pat_fit (Pat-F.Str text at) = true
pat_fit (Pat-F.Char byte at) = fits_byte byte
pat_fit (Pat-F.Long long at) = true
pat_fit (Pat-F.Record fields at) = all_true fields
pat_fit (Pat-F.Con long arg at) = arg
pat_fit (Pat-F.Typed pat ty at) = pat
pat_fit (Pat-F.As name ty pat at) = pat

abbrev pub pat_field_fit : PatField-F Bool Bool → Bool
pat_field_fit field = field.pat

abbrev pub fit_pat : Pat → Bool
fit_pat = fold-Pat Bool Bool pat_fit pat_field_fit

abbrev pub fit_pat_field : PatField → Bool
fit_pat_field = fold-PatField Bool Bool pat_fit pat_field_fit

-- ---- expressions, declarations and structures

abbrev pub exp_fit : Exp-F Bool Bool Bool Bool Bool Bool → Bool
exp_fit (Exp-F.Int n at) = fits_int n
exp_fit (Exp-F.Str text at) = true
exp_fit (Exp-F.Char byte at) = fits_byte byte
exp_fit (Exp-F.Long long at) = true
exp_fit (Exp-F.Record fields at) = all_true fields
exp_fit (Exp-F.Let dec exp at) = dec && exp
exp_fit (Exp-F.App function arg at) = function && arg
exp_fit (Exp-F.Typed exp ty at) = exp
exp_fit (Exp-F.Handle exp rules at) = exp && all_true rules
exp_fit (Exp-F.Raise exp at) = exp
exp_fit (Exp-F.Fn rules at) = all_true rules

abbrev pub exp_field_fit : ExpField-F Bool Bool Bool Bool Bool Bool → Bool
exp_field_fit field = field.exp

abbrev pub rule_fit : Rule-F Bool Bool Bool Bool Bool Bool → Bool
rule_fit rule = fit_pat rule.pat && rule.exp

abbrev pub dec_fit : Dec-F Bool Bool Bool Bool Bool Bool → Bool
dec_fit (Dec-F.Val tyvars rules recs at) = all_true rules && all_true recs
dec_fit (Dec-F.Types binds at) = true
dec_fit (Dec-F.Datatypes binds at) = true
dec_fit (Dec-F.Replication name long at) = true
dec_fit (Dec-F.Exceptions binds at) = true
dec_fit (Dec-F.Local hidden dec at) = hidden && dec
dec_fit (Dec-F.Open longs at) = true
dec_fit (Dec-F.Sequence decs at) = all_true decs
dec_fit (Dec-F.Structures binds at) = all_true binds

abbrev pub str_fit : StrExp-F Bool Bool Bool Bool Bool Bool → Bool
str_fit (StrExp-F.Struct dec at) = dec
str_fit (StrExp-F.Named long at) = true
str_fit (StrExp-F.Transparent str sig at) = str
str_fit (StrExp-F.Opaque str sig at) = str
str_fit (StrExp-F.Functor name str at) = str
str_fit (StrExp-F.Within dec str at) = dec && str

abbrev pub str_bind_fit : StrBind-F Bool Bool Bool Bool Bool Bool → Bool
str_bind_fit bind = bind.body

abbrev pub fit_exp : Exp → Bool
fit_exp = fold-Exp Bool Bool Bool Bool Bool Bool
    dec_fit exp_fit str_fit exp_field_fit rule_fit str_bind_fit

abbrev pub fit_exp_field : ExpField → Bool
fit_exp_field = fold-ExpField Bool Bool Bool Bool Bool Bool
    dec_fit exp_fit str_fit exp_field_fit rule_fit str_bind_fit

abbrev pub fit_rule : Rule → Bool
fit_rule = fold-Rule Bool Bool Bool Bool Bool Bool
    dec_fit exp_fit str_fit exp_field_fit rule_fit str_bind_fit

abbrev pub fit_dec : Dec → Bool
fit_dec = fold-Dec Bool Bool Bool Bool Bool Bool
    dec_fit exp_fit str_fit exp_field_fit rule_fit str_bind_fit

abbrev pub fit_str : StrExp → Bool
fit_str = fold-StrExp Bool Bool Bool Bool Bool Bool
    dec_fit exp_fit str_fit exp_field_fit rule_fit str_bind_fit

abbrev pub fit_str_bind : StrBind → Bool
fit_str_bind = fold-StrBind Bool Bool Bool Bool Bool Bool
    dec_fit exp_fit str_fit exp_field_fit rule_fit str_bind_fit

-- ---- units

abbrev pub fit_fun_bind : FunBind → Bool
fit_fun_bind bind = fit_str bind.body

abbrev pub fit_topdec : TopDec → Bool
fit_topdec (top.Structures binds at) = list_all fit_str_bind binds
fit_topdec (top.Signatures binds at) = true
fit_topdec (top.Functors binds at) = list_all fit_fun_bind binds
fit_topdec (top.Funsigs binds at) = true

abbrev pub HasFitConstants : BareUnit → Type 0
HasFitConstants unit = list_all fit_topdec unit.topdecs ≡ true
