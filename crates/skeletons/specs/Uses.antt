-- The uses of each form of a bare tree, form by form, with what is in scope at them.
-- (The Definition of Standard ML (Revised), figures 5 to 8 for the forms.)
use Rattle.std.specs.Prelude.{Option, Some, None, map}
use Rattle.cm_base.specs.declared.record.Namespace.TheVariants as space
use Rattle.sml_trees.specs.declared.ty.Ty.{Ty}
use Rattle.sml_trees.specs.declared.ty.Ty.TheOpen.{Ty-F, TyField-F}
use Rattle.sml_trees.specs.declared.ty.Ty.TheFolds.{fold-Ty, fold-TyField}
use Rattle.sml_trees.specs.declared.ty.TyField.{TyField}
use Rattle.sml_trees.specs.declared.ty.TypBind.{TypBind}
use Rattle.sml_trees.specs.declared.ty.ConBind.{ConBind}
use Rattle.sml_trees.specs.declared.ty.DatBind.{DatBind}
use Rattle.sml_trees.specs.declared.ty.ExBind.{ExBind}
use Rattle.sml_trees.specs.declared.ty.ExBody.{ExBody}
use Rattle.sml_trees.specs.declared.ty.ExBody.TheVariants as exn
use Rattle.sml_trees.specs.declared.ty.ValDesc.{ValDesc}
use Rattle.sml_trees.specs.declared.pat.Pat.{Pat}
use Rattle.sml_trees.specs.declared.pat.Pat.TheOpen.{Pat-F, PatField-F}
use Rattle.sml_trees.specs.declared.pat.Pat.TheFolds.{fold-Pat, fold-PatField}
use Rattle.sml_trees.specs.declared.pat.PatField.{PatField}
use Rattle.sml_trees.specs.declared.sig_exp.SigExp.{SigExp}
use Rattle.sml_trees.specs.declared.sig_exp.SigExp.TheOpen.{SigExp-F, Spec-F, SigBind-F}
use Rattle.sml_trees.specs.declared.sig_exp.SigExp.TheFolds.{fold-SigExp, fold-Spec, fold-SigBind}
use Rattle.sml_trees.specs.declared.sig_exp.Spec.{Spec}
use Rattle.sml_trees.specs.declared.sig_exp.SigBind.{SigBind}
use Rattle.sml_trees.specs.declared.exp.Dec.{Dec}
use Rattle.sml_trees.specs.declared.exp.Dec.TheOpen.{Dec-F, Exp-F, StrExp-F, ExpField-F, Rule-F, StrBind-F}
use Rattle.sml_trees.specs.declared.exp.Dec.TheFolds.{fold-Dec, fold-Exp, fold-StrExp, fold-ExpField, fold-Rule, fold-StrBind}
use Rattle.sml_trees.specs.declared.exp.Exp.{Exp}
use Rattle.sml_trees.specs.declared.exp.StrExp.{StrExp}
use Rattle.sml_trees.specs.declared.exp.ExpField.{ExpField}
use Rattle.sml_trees.specs.declared.exp.Rule.{Rule}
use Rattle.sml_trees.specs.declared.exp.StrBind.{StrBind}
use Rattle.skeletons.specs.Scopes.{Uses, no_use, structure_use, qualifier_use, name_use, both, all_uses, Brings, plain, opening, within, hiding, sequence, Binding, joined, module_name}

-- ---- types

abbrev pub ty_level : Ty-F Uses Uses → Uses
ty_level (Ty-F.Var name at) = no_use
ty_level (Ty-F.Record fields at) = all_uses fields
ty_level (Ty-F.Named args long at) = both (all_uses args) (qualifier_use long)
ty_level (Ty-F.Arrow from to at) = both from to

abbrev pub ty_field_level : TyField-F Uses Uses → Uses
ty_field_level field = field.ty

-- the uses of a type
abbrev pub ty_uses : Ty → Uses
ty_uses = fold-Ty Uses Uses ty_level ty_field_level

abbrev pub ty_field_uses : TyField → Uses
ty_field_uses = fold-TyField Uses Uses ty_level ty_field_level

-- the uses of a type that may be absent
abbrev pub option_uses : Option Ty → Uses
option_uses None = no_use
option_uses (Some ty) = ty_uses ty

-- ---- bindings of types, constructors and exceptions

abbrev pub typ_bind_uses : TypBind → Uses
typ_bind_uses bind = ty_uses bind.ty

abbrev pub con_bind_uses : ConBind → Uses
con_bind_uses con = option_uses con.arg

abbrev pub dat_bind_uses : DatBind → Uses
dat_bind_uses bind = all_uses (map con_bind_uses bind.cons)

abbrev pub ex_body_uses : ExBody → Uses
ex_body_uses exn.Plain = no_use
ex_body_uses (exn.Of ty) = ty_uses ty
ex_body_uses (exn.Copy long) = qualifier_use long

abbrev pub ex_bind_uses : ExBind → Uses
ex_bind_uses bind = ex_body_uses bind.body

abbrev pub val_desc_uses : ValDesc → Uses
val_desc_uses desc = ty_uses desc.ty

-- ---- patterns

abbrev pub pat_level : Pat-F Uses Uses → Uses
pat_level (Pat-F.Wild at) = no_use
pat_level (Pat-F.Int n at) = no_use
pat_level (Pat-F.Str text at) = no_use
pat_level (Pat-F.Char byte at) = no_use
pat_level (Pat-F.Long long at) = qualifier_use long
pat_level (Pat-F.Record fields at) = all_uses fields
pat_level (Pat-F.Con long arg at) = both (qualifier_use long) arg
pat_level (Pat-F.Typed pat ty at) = both pat (ty_uses ty)
pat_level (Pat-F.As name ty pat at) = both (option_uses ty) pat

abbrev pub pat_field_level : PatField-F Uses Uses → Uses
pat_field_level field = field.pat

-- the uses of a pattern
abbrev pub pat_uses : Pat → Uses
pat_uses = fold-Pat Uses Uses pat_level pat_field_level

abbrev pub pat_field_uses : PatField → Uses
pat_field_uses = fold-PatField Uses Uses pat_level pat_field_level

-- ---- signatures: what is specified is in scope up to the `end` of its signature

abbrev pub sig_level : SigExp-F Uses Brings Binding → Uses
sig_level (SigExp-F.Sig spec at) = spec.uses
sig_level (SigExp-F.Named name at) = name_use space.Signature name
-- the type constructor that a `where type` is about is looked up in the signature
sig_level (SigExp-F.Where sig tyvars long ty at) = both sig (ty_uses ty)

abbrev pub spec_level : Spec-F Uses Brings Binding → Brings
spec_level (Spec-F.Vals descs at) = plain (all_uses (map val_desc_uses descs))
spec_level (Spec-F.Types descs at) = plain no_use
spec_level (Spec-F.Eqtypes descs at) = plain no_use
spec_level (Spec-F.Datatypes binds at) = plain (all_uses (map dat_bind_uses binds))
spec_level (Spec-F.Replication name long at) = plain (qualifier_use long)
spec_level (Spec-F.Exceptions descs at) = plain (all_uses (map con_bind_uses descs))
spec_level (Spec-F.Structures descs at) = joined descs
spec_level (Spec-F.Include sig at) = opening sig
spec_level (Spec-F.Sequence specs at) = sequence specs

abbrev pub sig_bind_level : SigBind-F Uses Brings Binding → Binding
sig_bind_level bind = record { name = module_name space.Structure bind.name; uses = bind.sig }

-- the uses of a signature expression
abbrev pub sig_uses : SigExp → Uses
sig_uses = fold-SigExp Uses Brings Binding sig_level spec_level sig_bind_level

-- what a specification uses and brings
abbrev pub spec_brings : Spec → Brings
spec_brings = fold-Spec Uses Brings Binding sig_level spec_level sig_bind_level

-- a structure that is specified
abbrev pub sig_binding : SigBind → Binding
sig_binding = fold-SigBind Uses Brings Binding sig_level spec_level sig_bind_level

-- ---- expressions, declarations and structures

abbrev pub exp_level : Exp-F Brings Uses Uses Uses Uses Binding → Uses
exp_level (Exp-F.Int n at) = no_use
exp_level (Exp-F.Str text at) = no_use
exp_level (Exp-F.Char byte at) = no_use
exp_level (Exp-F.Long long at) = qualifier_use long
exp_level (Exp-F.Record fields at) = all_uses fields
exp_level (Exp-F.Let dec exp at) = within dec exp
exp_level (Exp-F.App function arg at) = both function arg
exp_level (Exp-F.Typed exp ty at) = both exp (ty_uses ty)
exp_level (Exp-F.Handle exp rules at) = both exp (all_uses rules)
exp_level (Exp-F.Raise exp at) = exp
exp_level (Exp-F.Fn rules at) = all_uses rules

abbrev pub exp_field_level : ExpField-F Brings Uses Uses Uses Uses Binding → Uses
exp_field_level field = field.exp

abbrev pub rule_level : Rule-F Brings Uses Uses Uses Uses Binding → Uses
rule_level rule = both (pat_uses rule.pat) rule.exp

abbrev pub dec_level : Dec-F Brings Uses Uses Uses Uses Binding → Brings
dec_level (Dec-F.Val tyvars binds recs at) = plain (both (all_uses binds) (all_uses recs))
dec_level (Dec-F.Types binds at) = plain (all_uses (map typ_bind_uses binds))
dec_level (Dec-F.Datatypes binds at) = plain (all_uses (map dat_bind_uses binds))
dec_level (Dec-F.Replication name long at) = plain (qualifier_use long)
dec_level (Dec-F.Exceptions binds at) = plain (all_uses (map ex_bind_uses binds))
dec_level (Dec-F.Local hidden dec at) = hiding hidden dec
-- the structures that one `open` lists are looked up before any of them is opened
dec_level (Dec-F.Open longs at) = opening (all_uses (map structure_use longs))
dec_level (Dec-F.Sequence decs at) = sequence decs
dec_level (Dec-F.Structures binds at) = joined binds

abbrev pub str_level : StrExp-F Brings Uses Uses Uses Uses Binding → Uses
str_level (StrExp-F.Struct dec at) = dec.uses
str_level (StrExp-F.Named long at) = structure_use long
str_level (StrExp-F.Transparent str sig at) = both str (sig_uses sig)
str_level (StrExp-F.Opaque str sig at) = both str (sig_uses sig)
str_level (StrExp-F.Functor name arg at) = both (name_use space.Functor name) arg
str_level (StrExp-F.Within dec str at) = within dec str

abbrev pub str_bind_level : StrBind-F Brings Uses Uses Uses Uses Binding → Binding
str_bind_level bind = record { name = module_name space.Structure bind.name; uses = bind.body }

-- the uses of an expression
abbrev pub exp_uses : Exp → Uses
exp_uses = fold-Exp Brings Uses Uses Uses Uses Binding
    dec_level exp_level str_level exp_field_level rule_level str_bind_level

abbrev pub exp_field_uses : ExpField → Uses
exp_field_uses = fold-ExpField Brings Uses Uses Uses Uses Binding
    dec_level exp_level str_level exp_field_level rule_level str_bind_level

abbrev pub rule_uses : Rule → Uses
rule_uses = fold-Rule Brings Uses Uses Uses Uses Binding
    dec_level exp_level str_level exp_field_level rule_level str_bind_level

-- what a declaration uses and brings
abbrev pub dec_brings : Dec → Brings
dec_brings = fold-Dec Brings Uses Uses Uses Uses Binding
    dec_level exp_level str_level exp_field_level rule_level str_bind_level

-- the uses of a structure expression
abbrev pub str_uses : StrExp → Uses
str_uses = fold-StrExp Brings Uses Uses Uses Uses Binding
    dec_level exp_level str_level exp_field_level rule_level str_bind_level

-- a structure that is bound
abbrev pub str_binding : StrBind → Binding
str_binding = fold-StrBind Brings Uses Uses Uses Uses Binding
    dec_level exp_level str_level exp_field_level rule_level str_bind_level
