-- Bare units whose names fit: each has 1 to 255 bytes, each of them printable and no space.
use Rattle.std.specs.Prelude.{◌≡◌, ℕ, Bool, true, ◌&&◌, nat_le, List, length, Option, Some, None}
use Rattle.std.specs.List.{list_all}
use Rattle.sml_trees.specs.CoreLets.{all_true}
use Rattle.sml_trees.specs.declared.name.Name.{Name}
use Rattle.sml_trees.specs.declared.name.LongName.{LongName}
use Rattle.sml_trees.specs.declared.ty.Ty.{Ty}
use Rattle.sml_trees.specs.declared.ty.Ty.TheOpen.{Ty-F, TyField-F}
use Rattle.sml_trees.specs.declared.ty.Ty.TheFolds.{fold-Ty, fold-TyField}
use Rattle.sml_trees.specs.declared.ty.TyField.{TyField}
use Rattle.sml_trees.specs.declared.pat.Pat.{Pat}
use Rattle.sml_trees.specs.declared.pat.Pat.TheOpen.{Pat-F, PatField-F}
use Rattle.sml_trees.specs.declared.pat.Pat.TheFolds.{fold-Pat, fold-PatField}
use Rattle.sml_trees.specs.declared.pat.PatField.{PatField}
use Rattle.sml_trees.specs.declared.sig_exp.SigExp.{SigExp}
use Rattle.sml_trees.specs.declared.sig_exp.SigExp.TheOpen.{SigExp-F, Spec-F, SigBind-F}
use Rattle.sml_trees.specs.declared.sig_exp.SigExp.TheFolds.{fold-SigExp, fold-Spec, fold-SigBind}
use Rattle.sml_trees.specs.declared.sig_exp.Spec.{Spec}
use Rattle.sml_trees.specs.declared.sig_exp.SigBind.{SigBind}
use Rattle.sml_trees.specs.declared.exp.Dec.{Dec}
use Rattle.sml_trees.specs.declared.exp.Dec.TheOpen.{Dec-F, Exp-F, StrExp-F, ExpField-F, Rule-F, StrBind-F}
use Rattle.sml_trees.specs.declared.exp.Dec.TheFolds.{fold-Dec, fold-Exp, fold-StrExp, fold-ExpField, fold-Rule, fold-StrBind}
use Rattle.sml_trees.specs.declared.exp.Exp.{Exp}
use Rattle.sml_trees.specs.declared.exp.StrExp.{StrExp}
use Rattle.sml_trees.specs.declared.exp.ExpField.{ExpField}
use Rattle.sml_trees.specs.declared.exp.Rule.{Rule}
use Rattle.sml_trees.specs.declared.exp.StrBind.{StrBind}
use Rattle.sml_trees.specs.declared.ty.TypBind.{TypBind}
use Rattle.sml_trees.specs.declared.ty.ConBind.{ConBind}
use Rattle.sml_trees.specs.declared.ty.DatBind.{DatBind}
use Rattle.sml_trees.specs.declared.ty.ExBody.{ExBody}
use Rattle.sml_trees.specs.declared.ty.ExBind.{ExBind}
use Rattle.sml_trees.specs.declared.ty.ValDesc.{ValDesc}
use Rattle.sml_trees.specs.declared.ty.TypDesc.{TypDesc}
use Rattle.sml_trees.specs.declared.ty.ExBody.TheVariants as body
use Rattle.sml_trees.specs.declared.unit.BareUnit.{BareUnit}
use Rattle.sml_trees.specs.declared.unit.FunBind.{FunBind}
use Rattle.sml_trees.specs.declared.unit.FunsigBind.{FunsigBind}
use Rattle.sml_trees.specs.declared.unit.TopDec.{TopDec}
use Rattle.sml_trees.specs.declared.unit.TopDec.TheVariants as top
use Rattle.lexeme_laws.specs.Limits.{is_printed}

-- ---- names

-- 1 to 255 bytes from 33 to 126
abbrev pub text_fits : List ℕ → Bool
text_fits text = nat_le 1 (length text) && (nat_le (length text) 255 && list_all is_printed text)

abbrev pub name_fits : Name → Bool
name_fits name = text_fits name.text

-- each part of it, of which there is one at least
abbrev pub long_fits : LongName → Bool
long_fits long = nat_le 1 (length long.parts) && list_all text_fits long.parts

-- ---- types

abbrev pub ty_names : Ty-F Bool Bool → Bool
ty_names (Ty-F.Var name at) = name_fits name
ty_names (Ty-F.Record fields at) = all_true fields
ty_names (Ty-F.Named args long at) = all_true args && long_fits long
ty_names (Ty-F.Arrow from to at) = from && to

abbrev pub ty_field_names : TyField-F Bool Bool → Bool
ty_field_names part = name_fits part.label && part.ty

abbrev pub names_ty : Ty → Bool
names_ty = fold-Ty Bool Bool ty_names ty_field_names

abbrev pub names_ty_field : TyField → Bool
names_ty_field = fold-TyField Bool Bool ty_names ty_field_names

abbrev pub names_if_ty : Option Ty → Bool
names_if_ty None = true
names_if_ty (Some ty) = names_ty ty

-- ---- bindings of names and types

abbrev pub names_typ_bind : TypBind → Bool
names_typ_bind bind = list_all name_fits bind.tyvars && (name_fits bind.name && names_ty bind.ty)

abbrev pub names_con_bind : ConBind → Bool
names_con_bind con = name_fits con.name && names_if_ty con.arg

abbrev pub names_dat_bind : DatBind → Bool
names_dat_bind bind = list_all name_fits bind.tyvars && (name_fits bind.name && list_all names_con_bind bind.cons)

abbrev pub names_ex_body : ExBody → Bool
names_ex_body body.Plain = true
names_ex_body (body.Of ty) = names_ty ty
names_ex_body (body.Copy long) = long_fits long

abbrev pub names_ex_bind : ExBind → Bool
names_ex_bind bind = name_fits bind.name && names_ex_body bind.body

abbrev pub names_val_desc : ValDesc → Bool
names_val_desc desc = name_fits desc.name && names_ty desc.ty

abbrev pub names_typ_desc : TypDesc → Bool
names_typ_desc desc = list_all name_fits desc.tyvars && name_fits desc.name

-- ---- patterns

abbrev pub pat_names : Pat-F Bool Bool → Bool
pat_names (Pat-F.Wild at) = true
pat_names (Pat-F.Int n at) = true
pat_names (Pat-F.Str text at) = true
pat_names (Pat-F.Char byte at) = true
pat_names (Pat-F.Long long at) = long_fits long
pat_names (Pat-F.Record fields at) = all_true fields
pat_names (Pat-F.Con long arg at) = long_fits long && arg
pat_names (Pat-F.Typed inner t at) = inner && names_ty t
pat_names (Pat-F.As name t inner at) = name_fits name && (names_if_ty t && inner)

abbrev pub pat_field_names : PatField-F Bool Bool → Bool
pat_field_names part = name_fits part.label && part.pat

abbrev pub names_pat : Pat → Bool
names_pat = fold-Pat Bool Bool pat_names pat_field_names

abbrev pub names_pat_field : PatField → Bool
names_pat_field = fold-PatField Bool Bool pat_names pat_field_names

-- ---- signatures

abbrev pub sig_names : SigExp-F Bool Bool Bool → Bool
sig_names (SigExp-F.Sig body at) = body
sig_names (SigExp-F.Named name at) = name_fits name
sig_names (SigExp-F.Where inner tyvars long t at) =
    inner && (list_all name_fits tyvars && (long_fits long && names_ty t))

abbrev pub spec_names : Spec-F Bool Bool Bool → Bool
spec_names (Spec-F.Vals descs at) = list_all names_val_desc descs
spec_names (Spec-F.Types descs at) = list_all names_typ_desc descs
spec_names (Spec-F.Eqtypes descs at) = list_all names_typ_desc descs
spec_names (Spec-F.Datatypes binds at) = list_all names_dat_bind binds
spec_names (Spec-F.Replication name long at) = name_fits name && long_fits long
spec_names (Spec-F.Exceptions cons at) = list_all names_con_bind cons
spec_names (Spec-F.Structures binds at) = all_true binds
spec_names (Spec-F.Include inner at) = inner
spec_names (Spec-F.Sequence specs at) = all_true specs

abbrev pub sig_bind_names : SigBind-F Bool Bool Bool → Bool
sig_bind_names part = name_fits part.name && part.sig

abbrev pub names_sig : SigExp → Bool
names_sig = fold-SigExp Bool Bool Bool sig_names spec_names sig_bind_names

abbrev pub names_spec : Spec → Bool
names_spec = fold-Spec Bool Bool Bool sig_names spec_names sig_bind_names

abbrev pub names_sig_bind : SigBind → Bool
names_sig_bind = fold-SigBind Bool Bool Bool sig_names spec_names sig_bind_names

-- ---- expressions, declarations and structures

abbrev pub dec_names : Dec-F Bool Bool Bool Bool Bool Bool → Bool
dec_names (Dec-F.Val tyvars rules recs at) = list_all name_fits tyvars && (all_true rules && all_true recs)
dec_names (Dec-F.Types binds at) = list_all names_typ_bind binds
dec_names (Dec-F.Datatypes binds at) = list_all names_dat_bind binds
dec_names (Dec-F.Replication name long at) = name_fits name && long_fits long
dec_names (Dec-F.Exceptions binds at) = list_all names_ex_bind binds
dec_names (Dec-F.Local a b at) = a && b
dec_names (Dec-F.Open longs at) = list_all long_fits longs
dec_names (Dec-F.Sequence decs at) = all_true decs
dec_names (Dec-F.Structures binds at) = all_true binds

abbrev pub exp_names : Exp-F Bool Bool Bool Bool Bool Bool → Bool
exp_names (Exp-F.Int n at) = true
exp_names (Exp-F.Str text at) = true
exp_names (Exp-F.Char byte at) = true
exp_names (Exp-F.Long long at) = long_fits long
exp_names (Exp-F.Record fields at) = all_true fields
exp_names (Exp-F.Let d e at) = d && e
exp_names (Exp-F.App f e at) = f && e
exp_names (Exp-F.Typed e t at) = e && names_ty t
exp_names (Exp-F.Handle e rules at) = e && all_true rules
exp_names (Exp-F.Raise e at) = e
exp_names (Exp-F.Fn rules at) = all_true rules

abbrev pub str_names : StrExp-F Bool Bool Bool Bool Bool Bool → Bool
str_names (StrExp-F.Struct d at) = d
str_names (StrExp-F.Named long at) = long_fits long
str_names (StrExp-F.Transparent s g at) = s && names_sig g
str_names (StrExp-F.Opaque s g at) = s && names_sig g
str_names (StrExp-F.Functor name s at) = name_fits name && s
str_names (StrExp-F.Within d s at) = d && s

abbrev pub exp_field_names : ExpField-F Bool Bool Bool Bool Bool Bool → Bool
exp_field_names part = name_fits part.label && part.exp

abbrev pub rule_names : Rule-F Bool Bool Bool Bool Bool Bool → Bool
rule_names part = names_pat part.pat && part.exp

abbrev pub str_bind_names : StrBind-F Bool Bool Bool Bool Bool Bool → Bool
str_bind_names part = name_fits part.name && part.body

abbrev pub names_dec : Dec → Bool
names_dec =
    fold-Dec Bool Bool Bool Bool Bool Bool dec_names exp_names str_names exp_field_names rule_names str_bind_names

abbrev pub names_exp : Exp → Bool
names_exp =
    fold-Exp Bool Bool Bool Bool Bool Bool dec_names exp_names str_names exp_field_names rule_names str_bind_names

abbrev pub names_str : StrExp → Bool
names_str =
    fold-StrExp Bool Bool Bool Bool Bool Bool dec_names exp_names str_names exp_field_names rule_names str_bind_names

abbrev pub names_exp_field : ExpField → Bool
names_exp_field =
    fold-ExpField Bool Bool Bool Bool Bool Bool dec_names exp_names str_names exp_field_names rule_names str_bind_names

abbrev pub names_rule : Rule → Bool
names_rule =
    fold-Rule Bool Bool Bool Bool Bool Bool dec_names exp_names str_names exp_field_names rule_names str_bind_names

abbrev pub names_str_bind : StrBind → Bool
names_str_bind =
    fold-StrBind Bool Bool Bool Bool Bool Bool dec_names exp_names str_names exp_field_names rule_names str_bind_names

-- ---- units

abbrev pub names_fun_bind : FunBind → Bool
names_fun_bind bind = name_fits bind.name && (name_fits bind.param && (names_sig bind.param_sig && names_str bind.body))

abbrev pub names_funsig_bind : FunsigBind → Bool
names_funsig_bind bind =
    name_fits bind.name && (name_fits bind.param && (names_sig bind.param_sig && names_sig bind.result_sig))

abbrev pub names_topdec : TopDec → Bool
names_topdec (top.Structures binds at) = list_all names_str_bind binds
names_topdec (top.Signatures binds at) = list_all names_sig_bind binds
names_topdec (top.Functors binds at) = list_all names_fun_bind binds
names_topdec (top.Funsigs binds at) = list_all names_funsig_bind binds

abbrev pub HasFitNames : BareUnit → Type 0
HasFitNames unit = list_all names_topdec unit.topdecs ≡ true
