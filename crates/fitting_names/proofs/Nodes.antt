-- Nodes whose names and parts fit have names that fit.
use Rattle.std.proofs.Common.{◌≡◌, ℕ, ℤ, true, ◌&&◌, List, Option, map, sym, ap, ◌∙◌}
use Rattle.std.specs.List.{list_all}
use Rattle.sml_trees.specs.CoreLets.{all_true}
use Rattle.sml_trees.specs.declared.name.At.{At}
use Rattle.sml_trees.specs.declared.name.Name.{Name}
use Rattle.sml_trees.specs.declared.name.LongName.{LongName}
use Rattle.sml_trees.specs.declared.ty.TypBind.{TypBind}
use Rattle.sml_trees.specs.declared.ty.ConBind.{ConBind}
use Rattle.sml_trees.specs.declared.ty.DatBind.{DatBind}
use Rattle.sml_trees.specs.declared.ty.ExBind.{ExBind}
use Rattle.sml_trees.specs.declared.ty.ValDesc.{ValDesc}
use Rattle.sml_trees.specs.declared.ty.TypDesc.{TypDesc}
use Rattle.sml_trees.specs.declared.ty.Ty.TheOpen.{Ty-F}
use Rattle.sml_trees.specs.declared.ty.Ty.TheFolds.{fold-roll-Ty, fold-roll-TyField}
use Rattle.sml_trees.specs.declared.ty.Ty.{Ty}
use Rattle.sml_trees.specs.declared.ty.Ty.TheVariants as ty
use Rattle.sml_trees.specs.declared.ty.TyField.{TyField, roll-TyField}
use Rattle.sml_trees.specs.declared.pat.Pat.TheOpen.{Pat-F}
use Rattle.sml_trees.specs.declared.pat.Pat.TheFolds.{fold-roll-Pat, fold-roll-PatField}
use Rattle.sml_trees.specs.declared.pat.Pat.{Pat}
use Rattle.sml_trees.specs.declared.pat.Pat.TheVariants as pat
use Rattle.sml_trees.specs.declared.pat.PatField.{PatField, roll-PatField}
use Rattle.sml_trees.specs.declared.sig_exp.SigExp.TheOpen.{SigExp-F, Spec-F}
use Rattle.sml_trees.specs.declared.sig_exp.SigExp.TheFolds.{fold-roll-SigExp, fold-roll-Spec, fold-roll-SigBind}
use Rattle.sml_trees.specs.declared.sig_exp.SigExp.{SigExp}
use Rattle.sml_trees.specs.declared.sig_exp.SigExp.TheVariants as sig
use Rattle.sml_trees.specs.declared.sig_exp.Spec.{Spec}
use Rattle.sml_trees.specs.declared.sig_exp.Spec.TheVariants as spec
use Rattle.sml_trees.specs.declared.sig_exp.SigBind.{SigBind, roll-SigBind}
use Rattle.sml_trees.specs.declared.exp.Dec.TheOpen.{Dec-F, Exp-F, StrExp-F}
use Rattle.sml_trees.specs.declared.exp.Dec.TheFolds.{fold-roll-Dec, fold-roll-Exp, fold-roll-StrExp, fold-roll-ExpField, fold-roll-Rule, fold-roll-StrBind}
use Rattle.sml_trees.specs.declared.exp.Dec.{Dec}
use Rattle.sml_trees.specs.declared.exp.Dec.TheVariants as dec
use Rattle.sml_trees.specs.declared.exp.Exp.{Exp}
use Rattle.sml_trees.specs.declared.exp.Exp.TheVariants as exp
use Rattle.sml_trees.specs.declared.exp.StrExp.{StrExp}
use Rattle.sml_trees.specs.declared.exp.StrExp.TheVariants as str
use Rattle.sml_trees.specs.declared.exp.ExpField.{ExpField, roll-ExpField}
use Rattle.sml_trees.specs.declared.exp.Rule.{Rule, roll-Rule}
use Rattle.sml_trees.specs.declared.exp.StrBind.{StrBind, roll-StrBind}
use Rattle.body_laws.proofs.Signatures.{Each, both-true, each-true, each-all}
use Rattle.fitting_names.specs.Names.{name_fits, long_fits, names_if_ty, names_typ_bind, names_con_bind, names_dat_bind, names_ex_bind, names_val_desc, names_typ_desc, ty_names, ty_field_names, names_ty, names_ty_field, pat_names, pat_field_names, names_pat, names_pat_field, sig_names, spec_names, sig_bind_names, names_sig, names_spec, names_sig_bind, dec_names, exp_names, str_names, exp_field_names, rule_names, str_bind_names, names_dec, names_exp, names_str, names_exp_field, names_rule, names_str_bind}

abbrev pub FitName : Name → Type 0
FitName name = name_fits name ≡ true

abbrev pub FitLong : LongName → Type 0
FitLong long = long_fits long ≡ true

-- ---- types

pub ty-Var : (name : Name) (at : At) → FitName name → names_ty (ty.Var name at) ≡ true
ty-Var name at p0 =
    ap names_ty (sym (ty.rolls-Var name at))
    ∙ fold-roll-Ty _ _ ty_names ty_field_names (Ty-F.Var name at)
    ∙ p0

pub ty-Record : (fields : List TyField) (at : At) → Each (λ x. names_ty_field x ≡ true) fields
    → names_ty (ty.Record fields at) ≡ true
ty-Record fields at p0 =
    ap names_ty (sym (ty.rolls-Record fields at))
    ∙ fold-roll-Ty _ _ ty_names ty_field_names (Ty-F.Record fields at)
    ∙ each-true names_ty_field fields p0

pub ty-Named : (args : List Ty) (long : LongName) (at : At) → Each (λ x. names_ty x ≡ true) args → FitLong long
    → names_ty (ty.Named args long at) ≡ true
ty-Named args long at p0 p1 =
    ap names_ty (sym (ty.rolls-Named args long at))
    ∙ fold-roll-Ty _ _ ty_names ty_field_names (Ty-F.Named args long at)
    ∙ both-true (all_true (map names_ty args)) (long_fits long) (each-true names_ty args p0) p1

pub ty-Arrow : (from : Ty) (to : Ty) (at : At) → names_ty from ≡ true → names_ty to ≡ true
    → names_ty (ty.Arrow from to at) ≡ true
ty-Arrow from to at p0 p1 =
    ap names_ty (sym (ty.rolls-Arrow from to at))
    ∙ fold-roll-Ty _ _ ty_names ty_field_names (Ty-F.Arrow from to at)
    ∙ both-true (names_ty from) (names_ty to) p0 p1

pub good-ty_field : (label : Name) (ty : Ty) → FitName label → names_ty ty ≡ true
    → names_ty_field (roll-TyField (record { label = label; ty = ty })) ≡ true
good-ty_field label ty p0 p1 =
    fold-roll-TyField _ _ ty_names ty_field_names (record { label = label; ty = ty })
    ∙ both-true (name_fits label) (names_ty ty) p0 p1

-- ---- patterns

pub pat-Wild : (at : At) → names_pat (pat.Wild at) ≡ true
pat-Wild at =
    ap names_pat (sym (pat.rolls-Wild at))
    ∙ fold-roll-Pat _ _ pat_names pat_field_names (Pat-F.Wild at)

pub pat-Int : (n : ℤ) (at : At) → names_pat (pat.Int n at) ≡ true
pat-Int n at =
    ap names_pat (sym (pat.rolls-Int n at))
    ∙ fold-roll-Pat _ _ pat_names pat_field_names (Pat-F.Int n at)

pub pat-Str : (text : List ℕ) (at : At) → names_pat (pat.Str text at) ≡ true
pat-Str text at =
    ap names_pat (sym (pat.rolls-Str text at))
    ∙ fold-roll-Pat _ _ pat_names pat_field_names (Pat-F.Str text at)

pub pat-Char : (byte : ℕ) (at : At) → names_pat (pat.Char byte at) ≡ true
pat-Char byte at =
    ap names_pat (sym (pat.rolls-Char byte at))
    ∙ fold-roll-Pat _ _ pat_names pat_field_names (Pat-F.Char byte at)

pub pat-Long : (long : LongName) (at : At) → FitLong long → names_pat (pat.Long long at) ≡ true
pat-Long long at p0 =
    ap names_pat (sym (pat.rolls-Long long at))
    ∙ fold-roll-Pat _ _ pat_names pat_field_names (Pat-F.Long long at)
    ∙ p0

pub pat-Record : (fields : List PatField) (at : At) → Each (λ x. names_pat_field x ≡ true) fields
    → names_pat (pat.Record fields at) ≡ true
pat-Record fields at p0 =
    ap names_pat (sym (pat.rolls-Record fields at))
    ∙ fold-roll-Pat _ _ pat_names pat_field_names (Pat-F.Record fields at)
    ∙ each-true names_pat_field fields p0

pub pat-Con : (long : LongName) (arg : Pat) (at : At) → FitLong long → names_pat arg ≡ true
    → names_pat (pat.Con long arg at) ≡ true
pat-Con long arg at p0 p1 =
    ap names_pat (sym (pat.rolls-Con long arg at))
    ∙ fold-roll-Pat _ _ pat_names pat_field_names (Pat-F.Con long arg at)
    ∙ both-true (long_fits long) (names_pat arg) p0 p1

pub pat-Typed : (inner : Pat) (t : Ty) (at : At) → names_pat inner ≡ true → names_ty t ≡ true
    → names_pat (pat.Typed inner t at) ≡ true
pat-Typed inner t at p0 p1 =
    ap names_pat (sym (pat.rolls-Typed inner t at))
    ∙ fold-roll-Pat _ _ pat_names pat_field_names (Pat-F.Typed inner t at)
    ∙ both-true (names_pat inner) (names_ty t) p0 p1

pub pat-As : (name : Name) (t : Option Ty) (inner : Pat) (at : At) → FitName name → names_if_ty t ≡ true
    → names_pat inner ≡ true → names_pat (pat.As name t inner at) ≡ true
pat-As name t inner at p0 p1 p2 =
    ap names_pat (sym (pat.rolls-As name t inner at))
    ∙ fold-roll-Pat _ _ pat_names pat_field_names (Pat-F.As name t inner at)
    ∙ both-true (name_fits name) (names_if_ty t && names_pat inner) p0
    (both-true (names_if_ty t) (names_pat inner) p1 p2)

pub good-pat_field : (label : Name) (pat : Pat) → FitName label → names_pat pat ≡ true
    → names_pat_field (roll-PatField (record { label = label; pat = pat })) ≡ true
good-pat_field label pat p0 p1 =
    fold-roll-PatField _ _ pat_names pat_field_names (record { label = label; pat = pat })
    ∙ both-true (name_fits label) (names_pat pat) p0 p1

-- ---- signatures

pub sig-Sig : (body : Spec) (at : At) → names_spec body ≡ true → names_sig (sig.Sig body at) ≡ true
sig-Sig body at p0 =
    ap names_sig (sym (sig.rolls-Sig body at))
    ∙ fold-roll-SigExp _ _ _ sig_names spec_names sig_bind_names (SigExp-F.Sig body at)
    ∙ p0

pub sig-Named : (name : Name) (at : At) → FitName name → names_sig (sig.Named name at) ≡ true
sig-Named name at p0 =
    ap names_sig (sym (sig.rolls-Named name at))
    ∙ fold-roll-SigExp _ _ _ sig_names spec_names sig_bind_names (SigExp-F.Named name at)
    ∙ p0

pub sig-Where : (inner : SigExp) (tyvars : List Name) (long : LongName) (t : Ty) (at : At) → names_sig inner ≡ true
    → Each FitName tyvars → FitLong long → names_ty t ≡ true → names_sig (sig.Where inner tyvars long t at) ≡ true
sig-Where inner tyvars long t at p0 p1 p2 p3 =
    ap names_sig (sym (sig.rolls-Where inner tyvars long t at))
    ∙ fold-roll-SigExp _ _ _ sig_names spec_names sig_bind_names (SigExp-F.Where inner tyvars long t at)
    ∙ both-true (names_sig inner) (list_all name_fits tyvars && (long_fits long && names_ty t)) p0
    (both-true (list_all name_fits tyvars) (long_fits long && names_ty t) (each-all name_fits tyvars p1)
    (both-true (long_fits long) (names_ty t) p2 p3))

pub spec-Vals : (descs : List ValDesc) (at : At) → Each (λ x. names_val_desc x ≡ true) descs
    → names_spec (spec.Vals descs at) ≡ true
spec-Vals descs at p0 =
    ap names_spec (sym (spec.rolls-Vals descs at))
    ∙ fold-roll-Spec _ _ _ sig_names spec_names sig_bind_names (Spec-F.Vals descs at)
    ∙ each-all names_val_desc descs p0

pub spec-Types : (descs : List TypDesc) (at : At) → Each (λ x. names_typ_desc x ≡ true) descs
    → names_spec (spec.Types descs at) ≡ true
spec-Types descs at p0 =
    ap names_spec (sym (spec.rolls-Types descs at))
    ∙ fold-roll-Spec _ _ _ sig_names spec_names sig_bind_names (Spec-F.Types descs at)
    ∙ each-all names_typ_desc descs p0

pub spec-Eqtypes : (descs : List TypDesc) (at : At) → Each (λ x. names_typ_desc x ≡ true) descs
    → names_spec (spec.Eqtypes descs at) ≡ true
spec-Eqtypes descs at p0 =
    ap names_spec (sym (spec.rolls-Eqtypes descs at))
    ∙ fold-roll-Spec _ _ _ sig_names spec_names sig_bind_names (Spec-F.Eqtypes descs at)
    ∙ each-all names_typ_desc descs p0

pub spec-Datatypes : (binds : List DatBind) (at : At) → Each (λ x. names_dat_bind x ≡ true) binds
    → names_spec (spec.Datatypes binds at) ≡ true
spec-Datatypes binds at p0 =
    ap names_spec (sym (spec.rolls-Datatypes binds at))
    ∙ fold-roll-Spec _ _ _ sig_names spec_names sig_bind_names (Spec-F.Datatypes binds at)
    ∙ each-all names_dat_bind binds p0

pub spec-Replication : (name : Name) (long : LongName) (at : At) → FitName name → FitLong long
    → names_spec (spec.Replication name long at) ≡ true
spec-Replication name long at p0 p1 =
    ap names_spec (sym (spec.rolls-Replication name long at))
    ∙ fold-roll-Spec _ _ _ sig_names spec_names sig_bind_names (Spec-F.Replication name long at)
    ∙ both-true (name_fits name) (long_fits long) p0 p1

pub spec-Exceptions : (cons : List ConBind) (at : At) → Each (λ x. names_con_bind x ≡ true) cons
    → names_spec (spec.Exceptions cons at) ≡ true
spec-Exceptions cons at p0 =
    ap names_spec (sym (spec.rolls-Exceptions cons at))
    ∙ fold-roll-Spec _ _ _ sig_names spec_names sig_bind_names (Spec-F.Exceptions cons at)
    ∙ each-all names_con_bind cons p0

pub spec-Structures : (binds : List SigBind) (at : At) → Each (λ x. names_sig_bind x ≡ true) binds
    → names_spec (spec.Structures binds at) ≡ true
spec-Structures binds at p0 =
    ap names_spec (sym (spec.rolls-Structures binds at))
    ∙ fold-roll-Spec _ _ _ sig_names spec_names sig_bind_names (Spec-F.Structures binds at)
    ∙ each-true names_sig_bind binds p0

pub spec-Include : (inner : SigExp) (at : At) → names_sig inner ≡ true → names_spec (spec.Include inner at) ≡ true
spec-Include inner at p0 =
    ap names_spec (sym (spec.rolls-Include inner at))
    ∙ fold-roll-Spec _ _ _ sig_names spec_names sig_bind_names (Spec-F.Include inner at)
    ∙ p0

pub spec-Sequence : (specs : List Spec) (at : At) → Each (λ x. names_spec x ≡ true) specs
    → names_spec (spec.Sequence specs at) ≡ true
spec-Sequence specs at p0 =
    ap names_spec (sym (spec.rolls-Sequence specs at))
    ∙ fold-roll-Spec _ _ _ sig_names spec_names sig_bind_names (Spec-F.Sequence specs at)
    ∙ each-true names_spec specs p0

pub good-sig_bind : (name : Name) (sig : SigExp) → FitName name → names_sig sig ≡ true
    → names_sig_bind (roll-SigBind (record { name = name; sig = sig })) ≡ true
good-sig_bind name sig p0 p1 =
    fold-roll-SigBind _ _ _ sig_names spec_names sig_bind_names (record { name = name; sig = sig })
    ∙ both-true (name_fits name) (names_sig sig) p0 p1

-- ---- expressions, declarations and structures

pub dec-Val : (tyvars : List Name) (rules : List Rule) (recs : List Rule) (at : At) → Each FitName tyvars
    → Each (λ x. names_rule x ≡ true) rules → Each (λ x. names_rule x ≡ true) recs
    → names_dec (dec.Val tyvars rules recs at) ≡ true
dec-Val tyvars rules recs at p0 p1 p2 =
    ap names_dec (sym (dec.rolls-Val tyvars rules recs at))
    ∙ fold-roll-Dec _ _ _ _ _ _ dec_names exp_names str_names exp_field_names rule_names str_bind_names
    (Dec-F.Val tyvars rules recs at)
    ∙ both-true (list_all name_fits tyvars) (all_true (map names_rule rules) && all_true (map names_rule recs))
    (each-all name_fits tyvars p0)
    (both-true (all_true (map names_rule rules)) (all_true (map names_rule recs)) (each-true names_rule rules p1)
    (each-true names_rule recs p2))

pub dec-Types : (binds : List TypBind) (at : At) → Each (λ x. names_typ_bind x ≡ true) binds
    → names_dec (dec.Types binds at) ≡ true
dec-Types binds at p0 =
    ap names_dec (sym (dec.rolls-Types binds at))
    ∙ fold-roll-Dec _ _ _ _ _ _ dec_names exp_names str_names exp_field_names rule_names str_bind_names
    (Dec-F.Types binds at)
    ∙ each-all names_typ_bind binds p0

pub dec-Datatypes : (binds : List DatBind) (at : At) → Each (λ x. names_dat_bind x ≡ true) binds
    → names_dec (dec.Datatypes binds at) ≡ true
dec-Datatypes binds at p0 =
    ap names_dec (sym (dec.rolls-Datatypes binds at))
    ∙ fold-roll-Dec _ _ _ _ _ _ dec_names exp_names str_names exp_field_names rule_names str_bind_names
    (Dec-F.Datatypes binds at)
    ∙ each-all names_dat_bind binds p0

pub dec-Replication : (name : Name) (long : LongName) (at : At) → FitName name → FitLong long
    → names_dec (dec.Replication name long at) ≡ true
dec-Replication name long at p0 p1 =
    ap names_dec (sym (dec.rolls-Replication name long at))
    ∙ fold-roll-Dec _ _ _ _ _ _ dec_names exp_names str_names exp_field_names rule_names str_bind_names
    (Dec-F.Replication name long at)
    ∙ both-true (name_fits name) (long_fits long) p0 p1

pub dec-Exceptions : (binds : List ExBind) (at : At) → Each (λ x. names_ex_bind x ≡ true) binds
    → names_dec (dec.Exceptions binds at) ≡ true
dec-Exceptions binds at p0 =
    ap names_dec (sym (dec.rolls-Exceptions binds at))
    ∙ fold-roll-Dec _ _ _ _ _ _ dec_names exp_names str_names exp_field_names rule_names str_bind_names
    (Dec-F.Exceptions binds at)
    ∙ each-all names_ex_bind binds p0

pub dec-Local : (a : Dec) (b : Dec) (at : At) → names_dec a ≡ true → names_dec b ≡ true
    → names_dec (dec.Local a b at) ≡ true
dec-Local a b at p0 p1 =
    ap names_dec (sym (dec.rolls-Local a b at))
    ∙ fold-roll-Dec _ _ _ _ _ _ dec_names exp_names str_names exp_field_names rule_names str_bind_names
    (Dec-F.Local a b at)
    ∙ both-true (names_dec a) (names_dec b) p0 p1

pub dec-Open : (longs : List LongName) (at : At) → Each FitLong longs → names_dec (dec.Open longs at) ≡ true
dec-Open longs at p0 =
    ap names_dec (sym (dec.rolls-Open longs at))
    ∙ fold-roll-Dec _ _ _ _ _ _ dec_names exp_names str_names exp_field_names rule_names str_bind_names
    (Dec-F.Open longs at)
    ∙ each-all long_fits longs p0

pub dec-Sequence : (decs : List Dec) (at : At) → Each (λ x. names_dec x ≡ true) decs
    → names_dec (dec.Sequence decs at) ≡ true
dec-Sequence decs at p0 =
    ap names_dec (sym (dec.rolls-Sequence decs at))
    ∙ fold-roll-Dec _ _ _ _ _ _ dec_names exp_names str_names exp_field_names rule_names str_bind_names
    (Dec-F.Sequence decs at)
    ∙ each-true names_dec decs p0

pub dec-Structures : (binds : List StrBind) (at : At) → Each (λ x. names_str_bind x ≡ true) binds
    → names_dec (dec.Structures binds at) ≡ true
dec-Structures binds at p0 =
    ap names_dec (sym (dec.rolls-Structures binds at))
    ∙ fold-roll-Dec _ _ _ _ _ _ dec_names exp_names str_names exp_field_names rule_names str_bind_names
    (Dec-F.Structures binds at)
    ∙ each-true names_str_bind binds p0

pub exp-Int : (n : ℤ) (at : At) → names_exp (exp.Int n at) ≡ true
exp-Int n at =
    ap names_exp (sym (exp.rolls-Int n at))
    ∙ fold-roll-Exp _ _ _ _ _ _ dec_names exp_names str_names exp_field_names rule_names str_bind_names (Exp-F.Int n at)

pub exp-Str : (text : List ℕ) (at : At) → names_exp (exp.Str text at) ≡ true
exp-Str text at =
    ap names_exp (sym (exp.rolls-Str text at))
    ∙ fold-roll-Exp _ _ _ _ _ _ dec_names exp_names str_names exp_field_names rule_names str_bind_names
    (Exp-F.Str text at)

pub exp-Char : (byte : ℕ) (at : At) → names_exp (exp.Char byte at) ≡ true
exp-Char byte at =
    ap names_exp (sym (exp.rolls-Char byte at))
    ∙ fold-roll-Exp _ _ _ _ _ _ dec_names exp_names str_names exp_field_names rule_names str_bind_names
    (Exp-F.Char byte at)

pub exp-Long : (long : LongName) (at : At) → FitLong long → names_exp (exp.Long long at) ≡ true
exp-Long long at p0 =
    ap names_exp (sym (exp.rolls-Long long at))
    ∙ fold-roll-Exp _ _ _ _ _ _ dec_names exp_names str_names exp_field_names rule_names str_bind_names
    (Exp-F.Long long at)
    ∙ p0

pub exp-Record : (fields : List ExpField) (at : At) → Each (λ x. names_exp_field x ≡ true) fields
    → names_exp (exp.Record fields at) ≡ true
exp-Record fields at p0 =
    ap names_exp (sym (exp.rolls-Record fields at))
    ∙ fold-roll-Exp _ _ _ _ _ _ dec_names exp_names str_names exp_field_names rule_names str_bind_names
    (Exp-F.Record fields at)
    ∙ each-true names_exp_field fields p0

pub exp-Let : (d : Dec) (e : Exp) (at : At) → names_dec d ≡ true → names_exp e ≡ true
    → names_exp (exp.Let d e at) ≡ true
exp-Let d e at p0 p1 =
    ap names_exp (sym (exp.rolls-Let d e at))
    ∙ fold-roll-Exp _ _ _ _ _ _ dec_names exp_names str_names exp_field_names rule_names str_bind_names
    (Exp-F.Let d e at)
    ∙ both-true (names_dec d) (names_exp e) p0 p1

pub exp-App : (f : Exp) (e : Exp) (at : At) → names_exp f ≡ true → names_exp e ≡ true
    → names_exp (exp.App f e at) ≡ true
exp-App f e at p0 p1 =
    ap names_exp (sym (exp.rolls-App f e at))
    ∙ fold-roll-Exp _ _ _ _ _ _ dec_names exp_names str_names exp_field_names rule_names str_bind_names
    (Exp-F.App f e at)
    ∙ both-true (names_exp f) (names_exp e) p0 p1

pub exp-Typed : (e : Exp) (t : Ty) (at : At) → names_exp e ≡ true → names_ty t ≡ true
    → names_exp (exp.Typed e t at) ≡ true
exp-Typed e t at p0 p1 =
    ap names_exp (sym (exp.rolls-Typed e t at))
    ∙ fold-roll-Exp _ _ _ _ _ _ dec_names exp_names str_names exp_field_names rule_names str_bind_names
    (Exp-F.Typed e t at)
    ∙ both-true (names_exp e) (names_ty t) p0 p1

pub exp-Handle : (e : Exp) (rules : List Rule) (at : At) → names_exp e ≡ true → Each (λ x. names_rule x ≡ true) rules
    → names_exp (exp.Handle e rules at) ≡ true
exp-Handle e rules at p0 p1 =
    ap names_exp (sym (exp.rolls-Handle e rules at))
    ∙ fold-roll-Exp _ _ _ _ _ _ dec_names exp_names str_names exp_field_names rule_names str_bind_names
    (Exp-F.Handle e rules at)
    ∙ both-true (names_exp e) (all_true (map names_rule rules)) p0 (each-true names_rule rules p1)

pub exp-Raise : (e : Exp) (at : At) → names_exp e ≡ true → names_exp (exp.Raise e at) ≡ true
exp-Raise e at p0 =
    ap names_exp (sym (exp.rolls-Raise e at))
    ∙ fold-roll-Exp _ _ _ _ _ _ dec_names exp_names str_names exp_field_names rule_names str_bind_names
    (Exp-F.Raise e at)
    ∙ p0

pub exp-Fn : (rules : List Rule) (at : At) → Each (λ x. names_rule x ≡ true) rules → names_exp (exp.Fn rules at) ≡ true
exp-Fn rules at p0 =
    ap names_exp (sym (exp.rolls-Fn rules at))
    ∙ fold-roll-Exp _ _ _ _ _ _ dec_names exp_names str_names exp_field_names rule_names str_bind_names
    (Exp-F.Fn rules at)
    ∙ each-true names_rule rules p0

pub str-Struct : (d : Dec) (at : At) → names_dec d ≡ true → names_str (str.Struct d at) ≡ true
str-Struct d at p0 =
    ap names_str (sym (str.rolls-Struct d at))
    ∙ fold-roll-StrExp _ _ _ _ _ _ dec_names exp_names str_names exp_field_names rule_names str_bind_names
    (StrExp-F.Struct d at)
    ∙ p0

pub str-Named : (long : LongName) (at : At) → FitLong long → names_str (str.Named long at) ≡ true
str-Named long at p0 =
    ap names_str (sym (str.rolls-Named long at))
    ∙ fold-roll-StrExp _ _ _ _ _ _ dec_names exp_names str_names exp_field_names rule_names str_bind_names
    (StrExp-F.Named long at)
    ∙ p0

pub str-Transparent : (s : StrExp) (g : SigExp) (at : At) → names_str s ≡ true → names_sig g ≡ true
    → names_str (str.Transparent s g at) ≡ true
str-Transparent s g at p0 p1 =
    ap names_str (sym (str.rolls-Transparent s g at))
    ∙ fold-roll-StrExp _ _ _ _ _ _ dec_names exp_names str_names exp_field_names rule_names str_bind_names
    (StrExp-F.Transparent s g at)
    ∙ both-true (names_str s) (names_sig g) p0 p1

pub str-Opaque : (s : StrExp) (g : SigExp) (at : At) → names_str s ≡ true → names_sig g ≡ true
    → names_str (str.Opaque s g at) ≡ true
str-Opaque s g at p0 p1 =
    ap names_str (sym (str.rolls-Opaque s g at))
    ∙ fold-roll-StrExp _ _ _ _ _ _ dec_names exp_names str_names exp_field_names rule_names str_bind_names
    (StrExp-F.Opaque s g at)
    ∙ both-true (names_str s) (names_sig g) p0 p1

pub str-Functor : (name : Name) (s : StrExp) (at : At) → FitName name → names_str s ≡ true
    → names_str (str.Functor name s at) ≡ true
str-Functor name s at p0 p1 =
    ap names_str (sym (str.rolls-Functor name s at))
    ∙ fold-roll-StrExp _ _ _ _ _ _ dec_names exp_names str_names exp_field_names rule_names str_bind_names
    (StrExp-F.Functor name s at)
    ∙ both-true (name_fits name) (names_str s) p0 p1

pub str-Within : (d : Dec) (s : StrExp) (at : At) → names_dec d ≡ true → names_str s ≡ true
    → names_str (str.Within d s at) ≡ true
str-Within d s at p0 p1 =
    ap names_str (sym (str.rolls-Within d s at))
    ∙ fold-roll-StrExp _ _ _ _ _ _ dec_names exp_names str_names exp_field_names rule_names str_bind_names
    (StrExp-F.Within d s at)
    ∙ both-true (names_dec d) (names_str s) p0 p1

pub good-exp_field : (label : Name) (exp : Exp) → FitName label → names_exp exp ≡ true
    → names_exp_field (roll-ExpField (record { label = label; exp = exp })) ≡ true
good-exp_field label exp p0 p1 =
    fold-roll-ExpField _ _ _ _ _ _ dec_names exp_names str_names exp_field_names rule_names str_bind_names
    (record { label = label; exp = exp })
    ∙ both-true (name_fits label) (names_exp exp) p0 p1

pub good-rule : (pat : Pat) (exp : Exp) → names_pat pat ≡ true → names_exp exp ≡ true
    → names_rule (roll-Rule (record { pat = pat; exp = exp })) ≡ true
good-rule pat exp p0 p1 =
    fold-roll-Rule _ _ _ _ _ _ dec_names exp_names str_names exp_field_names rule_names str_bind_names
    (record { pat = pat; exp = exp })
    ∙ both-true (names_pat pat) (names_exp exp) p0 p1

pub good-str_bind : (name : Name) (body : StrExp) → FitName name → names_str body ≡ true
    → names_str_bind (roll-StrBind (record { name = name; body = body })) ≡ true
good-str_bind name body p0 p1 =
    fold-roll-StrBind _ _ _ _ _ _ dec_names exp_names str_names exp_field_names rule_names str_bind_names
    (record { name = name; body = body })
    ∙ both-true (name_fits name) (names_str body) p0 p1
