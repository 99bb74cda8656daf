-- How high bare trees are. Every type, pattern, expression, declaration, structure expression, signature expression,
-- specification and declaration of the top level is one level more than the highest of those in it; names, fields,
-- rules and bindings are no levels. These are the nodes of a unit's code, of which each has one tag, and of which at
-- most 1,024 may stand in one another.
use Rattle.std.specs.Prelude.{ℕ, suc, max, List, [], ◌∷◌, map, Option, Some, None}
use Rattle.sml_trees.specs.declared.ty.Ty.{Ty}
use Rattle.sml_trees.specs.declared.ty.Ty.TheOpen.{Ty-F, TyField-F}
use Rattle.sml_trees.specs.declared.ty.Ty.TheFolds.{fold-Ty, fold-TyField}
use Rattle.sml_trees.specs.declared.ty.TyField.{TyField}
use Rattle.sml_trees.specs.declared.ty.TypBind.{TypBind}
use Rattle.sml_trees.specs.declared.ty.ConBind.{ConBind}
use Rattle.sml_trees.specs.declared.ty.DatBind.{DatBind}
use Rattle.sml_trees.specs.declared.ty.ExBind.{ExBind}
use Rattle.sml_trees.specs.declared.ty.ExBody.{ExBody}
use Rattle.sml_trees.specs.declared.ty.ExBody.TheVariants as exn
use Rattle.sml_trees.specs.declared.ty.ValDesc.{ValDesc}
use Rattle.sml_trees.specs.declared.pat.Pat.{Pat}
use Rattle.sml_trees.specs.declared.pat.Pat.TheOpen.{Pat-F, PatField-F}
use Rattle.sml_trees.specs.declared.pat.Pat.TheFolds.{fold-Pat, fold-PatField}
use Rattle.sml_trees.specs.declared.pat.PatField.{PatField}
use Rattle.sml_trees.specs.declared.sig_exp.SigExp.{SigExp}
use Rattle.sml_trees.specs.declared.sig_exp.SigExp.TheOpen.{SigExp-F, Spec-F, SigBind-F}
use Rattle.sml_trees.specs.declared.sig_exp.SigExp.TheFolds.{fold-SigExp, fold-Spec, fold-SigBind}
use Rattle.sml_trees.specs.declared.sig_exp.Spec.{Spec}
use Rattle.sml_trees.specs.declared.sig_exp.SigBind.{SigBind}
use Rattle.sml_trees.specs.declared.exp.Dec.{Dec}
use Rattle.sml_trees.specs.declared.exp.Dec.TheOpen.{Dec-F, Exp-F, StrExp-F, ExpField-F, Rule-F, StrBind-F}
use Rattle.sml_trees.specs.declared.exp.Dec.TheFolds.{fold-Dec, fold-Exp, fold-StrExp, fold-ExpField, fold-Rule, fold-StrBind}
use Rattle.sml_trees.specs.declared.exp.Exp.{Exp}
use Rattle.sml_trees.specs.declared.exp.StrExp.{StrExp}
use Rattle.sml_trees.specs.declared.exp.ExpField.{ExpField}
use Rattle.sml_trees.specs.declared.exp.Rule.{Rule}
use Rattle.sml_trees.specs.declared.exp.StrBind.{StrBind}
use Rattle.sml_trees.specs.declared.unit.BareUnit.{BareUnit}
use Rattle.sml_trees.specs.declared.unit.TopDec.{TopDec}
use Rattle.sml_trees.specs.declared.unit.TopDec.TheVariants as top
use Rattle.sml_trees.specs.declared.unit.FunBind.{FunBind}
use Rattle.sml_trees.specs.declared.unit.FunsigBind.{FunsigBind}

-- ---- the highest of several

-- the greatest of a height and of others
abbrev pub highest_with : ℕ → List ℕ → ℕ
highest_with height [] = height
highest_with height (other ∷ others) = highest_with (max height other) others

-- .. of these, and 0 of none
abbrev pub highest : List ℕ → ℕ
highest heights = highest_with 0 heights

-- ---- types

abbrev pub ty_step : Ty-F ℕ ℕ → ℕ
ty_step (Ty-F.Var name at) = 1
ty_step (Ty-F.Record fields at) = suc (highest fields)
ty_step (Ty-F.Named args long at) = suc (highest args)
ty_step (Ty-F.Arrow from to at) = suc (max from to)

abbrev pub ty_field_step : TyField-F ℕ ℕ → ℕ
ty_field_step field = field.ty

abbrev pub ty_height : Ty → ℕ
ty_height = fold-Ty ℕ ℕ ty_step ty_field_step

abbrev pub ty_field_height : TyField → ℕ
ty_field_height = fold-TyField ℕ ℕ ty_step ty_field_step

-- a type that may be absent
abbrev pub optional_height : Option Ty → ℕ
optional_height None = 0
optional_height (Some ty) = ty_height ty

abbrev pub con_height : ConBind → ℕ
con_height con = optional_height con.arg

abbrev pub dat_height : DatBind → ℕ
dat_height bind = highest (map con_height bind.cons)

abbrev pub typ_bind_height : TypBind → ℕ
typ_bind_height bind = ty_height bind.ty

abbrev pub ex_body_height : ExBody → ℕ
ex_body_height exn.Plain = 0
ex_body_height (exn.Of arg) = ty_height arg
ex_body_height (exn.Copy long) = 0

abbrev pub ex_height : ExBind → ℕ
ex_height bind = ex_body_height bind.body

abbrev pub val_desc_height : ValDesc → ℕ
val_desc_height desc = ty_height desc.ty

-- ---- patterns

abbrev pub pat_step : Pat-F ℕ ℕ → ℕ
pat_step (Pat-F.Wild at) = 1
pat_step (Pat-F.Int n at) = 1
pat_step (Pat-F.Str text at) = 1
pat_step (Pat-F.Char byte at) = 1
pat_step (Pat-F.Long long at) = 1
pat_step (Pat-F.Record fields at) = suc (highest fields)
pat_step (Pat-F.Con long arg at) = suc arg
pat_step (Pat-F.Typed inner ty at) = suc (max inner (ty_height ty))
pat_step (Pat-F.As name ty inner at) = suc (max (optional_height ty) inner)

abbrev pub pat_field_step : PatField-F ℕ ℕ → ℕ
pat_field_step field = field.pat

abbrev pub pat_height : Pat → ℕ
pat_height = fold-Pat ℕ ℕ pat_step pat_field_step

abbrev pub pat_field_height : PatField → ℕ
pat_field_height = fold-PatField ℕ ℕ pat_step pat_field_step

-- ---- signatures

abbrev pub sig_step : SigExp-F ℕ ℕ ℕ → ℕ
sig_step (SigExp-F.Sig spec at) = suc spec
sig_step (SigExp-F.Named name at) = 1
sig_step (SigExp-F.Where inner tyvars long ty at) = suc (max inner (ty_height ty))

abbrev pub spec_step : Spec-F ℕ ℕ ℕ → ℕ
spec_step (Spec-F.Vals descs at) = suc (highest (map val_desc_height descs))
spec_step (Spec-F.Types descs at) = 1
spec_step (Spec-F.Eqtypes descs at) = 1
spec_step (Spec-F.Datatypes binds at) = suc (highest (map dat_height binds))
spec_step (Spec-F.Replication name long at) = 1
spec_step (Spec-F.Exceptions cons at) = suc (highest (map con_height cons))
spec_step (Spec-F.Structures binds at) = suc (highest binds)
spec_step (Spec-F.Include inner at) = suc inner
spec_step (Spec-F.Sequence specs at) = suc (highest specs)

abbrev pub sig_bind_step : SigBind-F ℕ ℕ ℕ → ℕ
sig_bind_step bind = bind.sig

abbrev pub sig_height : SigExp → ℕ
sig_height = fold-SigExp ℕ ℕ ℕ sig_step spec_step sig_bind_step

abbrev pub spec_height : Spec → ℕ
spec_height = fold-Spec ℕ ℕ ℕ sig_step spec_step sig_bind_step

abbrev pub sig_bind_height : SigBind → ℕ
sig_bind_height = fold-SigBind ℕ ℕ ℕ sig_step spec_step sig_bind_step

-- ---- expressions, declarations and structure expressions

abbrev pub exp_step : Exp-F ℕ ℕ ℕ ℕ ℕ ℕ → ℕ
exp_step (Exp-F.Int n at) = 1
exp_step (Exp-F.Str text at) = 1
exp_step (Exp-F.Char byte at) = 1
exp_step (Exp-F.Long long at) = 1
exp_step (Exp-F.Record fields at) = suc (highest fields)
exp_step (Exp-F.Let dec inner at) = suc (max dec inner)
exp_step (Exp-F.App function arg at) = suc (max function arg)
exp_step (Exp-F.Typed inner ty at) = suc (max inner (ty_height ty))
exp_step (Exp-F.Handle inner rules at) = suc (max inner (highest rules))
exp_step (Exp-F.Raise inner at) = suc inner
exp_step (Exp-F.Fn rules at) = suc (highest rules)

abbrev pub exp_field_step : ExpField-F ℕ ℕ ℕ ℕ ℕ ℕ → ℕ
exp_field_step field = field.exp

abbrev pub rule_step : Rule-F ℕ ℕ ℕ ℕ ℕ ℕ → ℕ
rule_step rule = max (pat_height rule.pat) rule.exp

abbrev pub dec_step : Dec-F ℕ ℕ ℕ ℕ ℕ ℕ → ℕ
dec_step (Dec-F.Val tyvars rules recs at) = suc (max (highest rules) (highest recs))
dec_step (Dec-F.Types binds at) = suc (highest (map typ_bind_height binds))
dec_step (Dec-F.Datatypes binds at) = suc (highest (map dat_height binds))
dec_step (Dec-F.Replication name long at) = 1
dec_step (Dec-F.Exceptions binds at) = suc (highest (map ex_height binds))
dec_step (Dec-F.Local hidden dec at) = suc (max hidden dec)
dec_step (Dec-F.Open longs at) = 1
dec_step (Dec-F.Sequence decs at) = suc (highest decs)
dec_step (Dec-F.Structures binds at) = suc (highest binds)

abbrev pub str_step : StrExp-F ℕ ℕ ℕ ℕ ℕ ℕ → ℕ
str_step (StrExp-F.Struct dec at) = suc dec
str_step (StrExp-F.Named long at) = 1
str_step (StrExp-F.Transparent inner sig at) = suc (max inner (sig_height sig))
str_step (StrExp-F.Opaque inner sig at) = suc (max inner (sig_height sig))
str_step (StrExp-F.Functor name arg at) = suc arg
str_step (StrExp-F.Within dec inner at) = suc (max dec inner)

abbrev pub str_bind_step : StrBind-F ℕ ℕ ℕ ℕ ℕ ℕ → ℕ
str_bind_step bind = bind.body

abbrev pub dec_height : Dec → ℕ
dec_height = fold-Dec ℕ ℕ ℕ ℕ ℕ ℕ
    dec_step exp_step str_step exp_field_step rule_step str_bind_step

abbrev pub exp_height : Exp → ℕ
exp_height = fold-Exp ℕ ℕ ℕ ℕ ℕ ℕ
    dec_step exp_step str_step exp_field_step rule_step str_bind_step

abbrev pub str_height : StrExp → ℕ
str_height = fold-StrExp ℕ ℕ ℕ ℕ ℕ ℕ
    dec_step exp_step str_step exp_field_step rule_step str_bind_step

abbrev pub exp_field_height : ExpField → ℕ
exp_field_height = fold-ExpField ℕ ℕ ℕ ℕ ℕ ℕ
    dec_step exp_step str_step exp_field_step rule_step str_bind_step

abbrev pub rule_height : Rule → ℕ
rule_height = fold-Rule ℕ ℕ ℕ ℕ ℕ ℕ
    dec_step exp_step str_step exp_field_step rule_step str_bind_step

abbrev pub str_bind_height : StrBind → ℕ
str_bind_height = fold-StrBind ℕ ℕ ℕ ℕ ℕ ℕ
    dec_step exp_step str_step exp_field_step rule_step str_bind_step

-- ---- units

abbrev pub functor_height : FunBind → ℕ
functor_height bind = max (sig_height bind.param_sig) (str_height bind.body)

abbrev pub funsig_height : FunsigBind → ℕ
funsig_height bind = max (sig_height bind.param_sig) (sig_height bind.result_sig)

abbrev pub topdec_height : TopDec → ℕ
topdec_height (top.Structures binds at) = suc (highest (map str_bind_height binds))
topdec_height (top.Signatures binds at) = suc (highest (map sig_bind_height binds))
topdec_height (top.Functors binds at) = suc (highest (map functor_height binds))
topdec_height (top.Funsigs binds at) = suc (highest (map funsig_height binds))

unfoldable pub unit_height : BareUnit → ℕ
unit_height unit = highest (map topdec_height unit.topdecs)
