-- Both at once of a tree: what is to be a sequence is one, and each constant fits.
use Rattle.std.proofs.Common.{Bool, true, ◌&&◌}
use Rattle.std.specs.List.{list_all}
use Rattle.sml_trees.specs.CoreLets.{all_true}
use Rattle.sml_trees.specs.declared.exp.Dec.{Dec}
use Rattle.sml_trees.specs.declared.exp.Dec.TheOpen.{Dec-F, Exp-F, StrExp-F, ExpField-F, Rule-F, StrBind-F}
use Rattle.sml_trees.specs.declared.exp.Dec.TheFolds.{fold-Dec, fold-Exp, fold-StrExp, fold-ExpField, fold-Rule, fold-StrBind}
use Rattle.sml_trees.specs.declared.exp.Exp.{Exp}
use Rattle.sml_trees.specs.declared.exp.ExpField.{ExpField}
use Rattle.sml_trees.specs.declared.exp.Rule.{Rule}
use Rattle.sml_trees.specs.declared.exp.StrBind.{StrBind}
use Rattle.sml_trees.specs.declared.exp.StrExp.{StrExp}
use Rattle.sml_trees.specs.declared.unit.FunBind.{FunBind}
use Rattle.sml_trees.specs.declared.unit.TopDec.{TopDec}
use Rattle.sml_trees.specs.declared.unit.TopDec.TheVariants as top
use Rattle.code_laws.specs.Constants.{fits_int, fits_byte, fit_pat}
use Rattle.code_laws.specs.Plain.{Body, single, several, plain_of, body_of, plain_sig, plain_sig_bind, plain_funsig_bind}

-- ---- expressions, declarations and structures

abbrev pub exp_plain : Exp-F Body Bool Bool Bool Bool Bool → Bool
exp_plain (Exp-F.Int n at) = fits_int n
exp_plain (Exp-F.Str text at) = true
exp_plain (Exp-F.Char byte at) = fits_byte byte
exp_plain (Exp-F.Long long at) = true
exp_plain (Exp-F.Record fields at) = all_true fields
exp_plain (Exp-F.Let dec exp at) = body_of dec && exp
exp_plain (Exp-F.App function arg at) = function && arg
exp_plain (Exp-F.Typed exp ty at) = exp
exp_plain (Exp-F.Handle exp rules at) = exp && all_true rules
exp_plain (Exp-F.Raise exp at) = exp
exp_plain (Exp-F.Fn rules at) = all_true rules

abbrev pub exp_field_plain : ExpField-F Body Bool Bool Bool Bool Bool → Bool
exp_field_plain field = field.exp

abbrev pub rule_plain : Rule-F Body Bool Bool Bool Bool Bool → Bool
rule_plain rule = fit_pat rule.pat && rule.exp

abbrev pub dec_plain : Dec-F Body Bool Bool Bool Bool Bool → Body
dec_plain (Dec-F.Val tyvars rules recs at) = single (all_true rules && all_true recs)
dec_plain (Dec-F.Types binds at) = single true
dec_plain (Dec-F.Datatypes binds at) = single true
dec_plain (Dec-F.Replication name long at) = single true
dec_plain (Dec-F.Exceptions binds at) = single true
dec_plain (Dec-F.Local hidden dec at) = single (body_of hidden && body_of dec)
dec_plain (Dec-F.Open longs at) = single true
dec_plain (Dec-F.Sequence decs at) = several (list_all plain_of decs)
dec_plain (Dec-F.Structures binds at) = single (all_true binds)

abbrev pub str_plain : StrExp-F Body Bool Bool Bool Bool Bool → Bool
str_plain (StrExp-F.Struct dec at) = body_of dec
str_plain (StrExp-F.Named long at) = true
str_plain (StrExp-F.Transparent str sig at) = str && plain_sig sig
str_plain (StrExp-F.Opaque str sig at) = str && plain_sig sig
str_plain (StrExp-F.Functor name str at) = str
str_plain (StrExp-F.Within dec str at) = body_of dec && str

abbrev pub str_bind_plain : StrBind-F Body Bool Bool Bool Bool Bool → Bool
str_bind_plain bind = bind.body

abbrev pub plain_exp : Exp → Bool
plain_exp = fold-Exp Body Bool Bool Bool Bool Bool
    dec_plain exp_plain str_plain exp_field_plain rule_plain str_bind_plain

abbrev pub plain_exp_field : ExpField → Bool
plain_exp_field = fold-ExpField Body Bool Bool Bool Bool Bool
    dec_plain exp_plain str_plain exp_field_plain rule_plain str_bind_plain

abbrev pub plain_rule : Rule → Bool
plain_rule = fold-Rule Body Bool Bool Bool Bool Bool
    dec_plain exp_plain str_plain exp_field_plain rule_plain str_bind_plain

abbrev pub plain_dec : Dec → Body
plain_dec = fold-Dec Body Bool Bool Bool Bool Bool
    dec_plain exp_plain str_plain exp_field_plain rule_plain str_bind_plain

abbrev pub plain_str : StrExp → Bool
plain_str = fold-StrExp Body Bool Bool Bool Bool Bool
    dec_plain exp_plain str_plain exp_field_plain rule_plain str_bind_plain

abbrev pub plain_str_bind : StrBind → Bool
plain_str_bind = fold-StrBind Body Bool Bool Bool Bool Bool
    dec_plain exp_plain str_plain exp_field_plain rule_plain str_bind_plain

-- ---- units

abbrev pub plain_fun_bind : FunBind → Bool
plain_fun_bind bind = plain_sig bind.param_sig && plain_str bind.body

abbrev pub plain_topdec : TopDec → Bool
plain_topdec (top.Structures binds at) = list_all plain_str_bind binds
plain_topdec (top.Signatures binds at) = list_all plain_sig_bind binds
plain_topdec (top.Functors binds at) = list_all plain_fun_bind binds
plain_topdec (top.Funsigs binds at) = list_all plain_funsig_bind binds
