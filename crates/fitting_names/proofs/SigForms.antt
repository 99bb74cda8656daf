-- What a signature or a specification becomes has names that fit, if its names and what its parts become have.
use Rattle.std.proofs.Common.{◌≡◌, Bool, true, false, List, [], ◌∷◌, Option, Some, None, if◌then◌else◌, sym, ap, ◌∙◌, subst, map, flat_map}
use Rattle.std.specs.List.{list_all}
use Rattle.sml_trees.specs.declared.name.At.{At}
use Rattle.sml_trees.specs.declared.name.Name.{Name}
use Rattle.sml_trees.specs.declared.name.LongName.{LongName}
use Rattle.sml_trees.specs.declared.ty.TypDesc.{TypDesc}
use Rattle.sml_trees.specs.declared.full_ty.FullTy.{FullTy}
use Rattle.sml_trees.specs.declared.full_ty.FullConBind.{FullConBind}
use Rattle.sml_trees.specs.declared.full_ty.FullDatBind.{FullDatBind}
use Rattle.sml_trees.specs.declared.full_ty.FullTypDesc.{FullTypDesc}
use Rattle.sml_trees.specs.declared.full_ty.FullValDesc.{FullValDesc}
use Rattle.sml_trees.specs.declared.full_sig.FullSigExp.{FullSigExp}
use Rattle.sml_trees.specs.declared.full_sig.FullSigExp.TheOpen.{FullSigExp-F, FullSpec-F}
use Rattle.sml_trees.specs.declared.full_sig.FullSigExp.TheFolds.{fold-roll-FullSigExp, fold-roll-FullSpec, fold-roll-FullSigBind}
use Rattle.sml_trees.specs.declared.full_sig.FullSigExp.TheVariants as s
use Rattle.sml_trees.specs.declared.full_sig.FullSpec.{FullSpec}
use Rattle.sml_trees.specs.declared.full_sig.FullSpec.TheVariants as p
use Rattle.sml_trees.specs.declared.full_sig.FullSigBind.{FullSigBind, roll-FullSigBind}
use Rattle.sml_trees.specs.declared.full_sig.FullWhere.{FullWhere}
use Rattle.sml_trees.specs.declared.sig_exp.SigExp.{SigExp}
use Rattle.sml_trees.specs.declared.sig_exp.SigExp.TheVariants as sig
use Rattle.sml_trees.specs.declared.sig_exp.Spec.{Spec}
use Rattle.sml_trees.specs.declared.sig_exp.Spec.TheVariants as spec
use Rattle.sml_trees.specs.declared.sig_exp.SigBind.{SigBind}
use Rattle.bare_forms.specs.Types.{bare_ty, plain_desc, bare_con_bind, bare_dat_bind, bare_val_desc}
use Rattle.bare_forms.specs.Patterns.{at_name, long_name}
use Rattle.bare_forms.specs.Signatures.{where_sig, one_type, type_sig, single_spec, single_of, has_type, include_name, other_include, include_names, sig_level, spec_level, sig_bind_level, bare_sig, bare_spec, bare_sig_bind}
use Rattle.bare_forms.proofs.SigLevels.{bare_sig-Sig, bare_spec-Structures}
use Rattle.body_laws.proofs.Signatures.{Each, each-map, each-flat, each-all, both-true}
use Rattle.fitting_names.specs.Names.{name_fits, names_con_bind, names_dat_bind, names_val_desc, names_typ_desc, names_sig, names_spec, names_sig_bind}
use Rattle.fitting_names.proofs.Nodes.{FitName, FitLong, sig-Sig, sig-Named, sig-Where, spec-Vals, spec-Types, spec-Eqtypes, spec-Datatypes, spec-Replication, spec-Exceptions, spec-Structures, spec-Include, spec-Sequence, good-sig_bind}
use Rattle.fitting_names.specs.Promises.{NewNamesFit}
use Rattle.fitting_names.proofs.Texts.{decimal_fits, arg_fits}
use Rattle.fitting_names.proofs.TyForms.{TyIs, IfTy, if-is}
use Rattle.fitting_names.proofs.PatForms.{long_name_fits}

-- ---- bindings of names and types

pub record ConIs (con : FullConBind) : Type 0 where
  pub name : FitName con.name.name
  pub arg : IfTy con.arg

pub con_is : (con : FullConBind) → ConIs con → names_con_bind (bare_con_bind con) ≡ true
con_is con is = both-true (name_fits con.name.name) _ is.name (if-is con.arg is.arg)

pub cons_are : (cons : List FullConBind) → Each ConIs cons
    → Each (λ x. names_con_bind x ≡ true) (map bare_con_bind cons)
cons_are [] all = tt
cons_are (con ∷ cons) all = (con_is con all.0, cons_are cons all.1)

pub record DatIs (bind : FullDatBind) : Type 0 where
  pub tyvars : Each FitName bind.tyvars
  pub name : FitName bind.name
  pub cons : Each ConIs bind.cons

pub dat_is : (bind : FullDatBind) → DatIs bind → names_dat_bind (bare_dat_bind bind) ≡ true
dat_is bind is =
    both-true (list_all name_fits bind.tyvars) _ (each-all name_fits bind.tyvars is.tyvars)
    (both-true (name_fits bind.name) _ is.name
    (each-all names_con_bind (map bare_con_bind bind.cons) (cons_are bind.cons is.cons)))

pub dats_are : (binds : List FullDatBind) → Each DatIs binds
    → Each (λ x. names_dat_bind x ≡ true) (map bare_dat_bind binds)
dats_are [] all = tt
dats_are (bind ∷ binds) all = (dat_is bind all.0, dats_are binds all.1)

pub record ValDescIs (desc : FullValDesc) : Type 0 where
  pub name : FitName desc.name
  pub ty : TyIs desc.ty

vals_are : (descs : List FullValDesc) → Each ValDescIs descs
    → Each (λ x. names_val_desc x ≡ true) (map bare_val_desc descs)
vals_are [] all = tt
vals_are (desc ∷ descs) all = (both-true (name_fits desc.name) _ all.0.name all.0.ty, vals_are descs all.1)

pub record TypDescIs (desc : FullTypDesc) : Type 0 where
  pub tyvars : Each FitName desc.tyvars
  pub name : FitName desc.name
  pub ty : IfTy desc.ty

pub record WhereIs (found : FullWhere) : Type 0 where
  pub tyvars : Each FitName found.tyvars
  pub long : FitLong found.long
  pub ty : TyIs found.ty

-- ---- signatures

abbrev pub FitSig : SigExp → Type 0
FitSig made = names_sig made ≡ true

abbrev pub FitSpec : Spec → Type 0
FitSpec made = names_spec made ≡ true

abbrev pub SigIs : FullSigExp → Type 0
SigIs full = FitSig (bare_sig full)

abbrev pub SpecIs : FullSpec → Type 0
SpecIs full = Each FitSpec (bare_spec full)

abbrev pub SigBindIs : FullSigBind → Type 0
SigBindIs full = names_sig_bind (bare_sig_bind full) ≡ true

sig_by : {one made : SigExp} → one ≡ made → FitSig made → FitSig one
sig_by same is = subst FitSig (sym same) is

spec_by : {one made : List Spec} → one ≡ made → Each FitSpec made → Each FitSpec one
spec_by same all = subst (Each FitSpec) (sym same) all

pub body_fits : (specs : List Spec) (at : At) → Each FitSpec specs → FitSig (sig.Sig (spec.Sequence specs at) at)
body_fits specs at all = sig-Sig (spec.Sequence specs at) at (spec-Sequence specs at all)

pub full-Sig : (specs : List FullSpec) (at : At) → Each SpecIs specs → SigIs (s.Sig specs at)
full-Sig specs at all =
    sig_by (bare_sig-Sig specs at) (body_fits (flat_map bare_spec specs) at (each-flat FitSpec bare_spec specs all))

pub full-Named : (name : Name) (at : At) → FitName name → SigIs (s.Named name at)
full-Named name at is =
    sig_by (ap bare_sig (sym (s.rolls-Named name at))
    ∙ fold-roll-FullSigExp _ _ _ sig_level spec_level sig_bind_level (FullSigExp-F.Named name at))
    (sig-Named name at is)

where_fits : (at : At) (inner : SigExp) (types : List FullWhere) → FitSig inner → Each WhereIs types
    → FitSig (where_sig at inner types)
where_fits at inner [] is all = is
where_fits at inner (found ∷ types) is all =
    where_fits at (sig.Where inner found.tyvars found.long (bare_ty found.ty) at) types
    (sig-Where inner found.tyvars found.long (bare_ty found.ty) at is all.0.tyvars all.0.long all.0.ty) all.1

pub full-Where : (inner : FullSigExp) (types : List FullWhere) (at : At) → SigIs inner → Each WhereIs types
    → SigIs (s.Where inner types at)
full-Where inner types at is all =
    sig_by (ap bare_sig (sym (s.rolls-Where inner types at))
    ∙ fold-roll-FullSigExp _ _ _ sig_level spec_level sig_bind_level (FullSigExp-F.Where inner types at))
    (where_fits at (bare_sig inner) types is all)

pub sig_bind-is : (called : Name) (inner : FullSigExp) → FitName called → SigIs inner
    → SigBindIs (roll-FullSigBind (record { name = called; sig = inner }))
sig_bind-is called inner first second =
    subst (λ (bind : SigBind). names_sig_bind bind ≡ true)
    (sym (fold-roll-FullSigBind _ _ _ sig_level spec_level sig_bind_level (record { name = called; sig = inner })))
    (good-sig_bind called (bare_sig inner) first second)

-- ---- specifications

pub full-Vals : (descs : List FullValDesc) (at : At) → Each ValDescIs descs → SpecIs (p.Vals descs at)
full-Vals descs at all =
    spec_by (ap bare_spec (sym (p.rolls-Vals descs at))
    ∙ fold-roll-FullSpec _ _ _ sig_level spec_level sig_bind_level (FullSpec-F.Vals descs at))
    (spec-Vals (map bare_val_desc descs) at (vals_are descs all), tt)

pub desc_by : (vars : List Name) (called : Name) → Each FitName vars → FitName called
    → names_typ_desc (record { tyvars = vars; name = called }) ≡ true
desc_by vars called those is = both-true (list_all name_fits vars) (name_fits called) (each-all name_fits vars those) is

desc_fits : (desc : FullTypDesc) → TypDescIs desc → names_typ_desc (plain_desc desc) ≡ true
desc_fits desc is =
    both-true (list_all name_fits desc.tyvars) _ (each-all name_fits desc.tyvars is.tyvars) is.name

descs_fit : (descs : List FullTypDesc) → Each TypDescIs descs
    → Each (λ x. names_typ_desc x ≡ true) (map plain_desc descs)
descs_fit [] all = tt
descs_fit (desc ∷ descs) all = (desc_fits desc all.0, descs_fit descs all.1)

one_fits : (at : At) (desc : TypDesc) → names_typ_desc desc ≡ true → FitSpec (one_type at desc)
one_fits at desc is = spec-Types (desc ∷ []) at (is, tt)

single_fits : (at : At) (desc : FullTypDesc) (given : Option FullTy) → TypDescIs desc → IfTy given
    → FitSpec (single_spec at (plain_desc desc) given)
single_fits at desc None is so = one_fits at (plain_desc desc) (desc_fits desc is)
single_fits at desc (Some ty) is so =
    let plain = plain_desc desc in
    spec-Include (sig.Where (type_sig at plain) plain.tyvars (long_name plain.name) (bare_ty ty) at) at
    (sig-Where (type_sig at plain) plain.tyvars (long_name plain.name) (bare_ty ty) at
    (body_fits (one_type at plain ∷ []) at (one_fits at plain (desc_fits desc is), tt)) is.tyvars
    (long_name_fits desc.name is.name) so)

singles_fit : (at : At) (descs : List FullTypDesc) → Each TypDescIs descs → Each FitSpec (map (single_of at) descs)
singles_fit at [] all = tt
singles_fit at (desc ∷ descs) all = (single_fits at desc desc.ty all.0 all.0.ty, singles_fit at descs all.1)

types_if : (b : Bool) (at : At) (descs : List FullTypDesc) → Each TypDescIs descs
    → Each FitSpec (if b then map (single_of at) descs else (spec.Types (map plain_desc descs) at ∷ []))
types_if true at descs all = singles_fit at descs all
types_if false at descs all = (spec-Types (map plain_desc descs) at (descs_fit descs all), tt)

pub full-Types : (descs : List FullTypDesc) (at : At) → Each TypDescIs descs → SpecIs (p.Types descs at)
full-Types descs at all =
    spec_by (ap bare_spec (sym (p.rolls-Types descs at))
    ∙ fold-roll-FullSpec _ _ _ sig_level spec_level sig_bind_level (FullSpec-F.Types descs at))
    (types_if (has_type descs) at descs all)

pub full-Eqtypes : (descs : List TypDesc) (at : At) → Each (λ x. names_typ_desc x ≡ true) descs
    → SpecIs (p.Eqtypes descs at)
full-Eqtypes descs at all =
    spec_by (ap bare_spec (sym (p.rolls-Eqtypes descs at))
    ∙ fold-roll-FullSpec _ _ _ sig_level spec_level sig_bind_level (FullSpec-F.Eqtypes descs at))
    (spec-Eqtypes descs at all, tt)

pub full-Datatypes : (binds : List FullDatBind) (at : At) → Each DatIs binds → SpecIs (p.Datatypes binds at)
full-Datatypes binds at all =
    spec_by (ap bare_spec (sym (p.rolls-Datatypes binds at))
    ∙ fold-roll-FullSpec _ _ _ sig_level spec_level sig_bind_level (FullSpec-F.Datatypes binds at))
    (spec-Datatypes (map bare_dat_bind binds) at (dats_are binds all), tt)

pub full-Replication : (name : Name) (long : LongName) (at : At) → FitName name → FitLong long
    → SpecIs (p.Replication name long at)
full-Replication name long at first second =
    spec_by (ap bare_spec (sym (p.rolls-Replication name long at))
    ∙ fold-roll-FullSpec _ _ _ sig_level spec_level sig_bind_level (FullSpec-F.Replication name long at))
    (spec-Replication name long at first second, tt)

pub full-Exceptions : (cons : List FullConBind) (at : At) → Each ConIs cons → SpecIs (p.Exceptions cons at)
full-Exceptions cons at all =
    spec_by (ap bare_spec (sym (p.rolls-Exceptions cons at))
    ∙ fold-roll-FullSpec _ _ _ sig_level spec_level sig_bind_level (FullSpec-F.Exceptions cons at))
    (spec-Exceptions (map bare_con_bind cons) at (cons_are cons all), tt)

pub full-Structures : (binds : List FullSigBind) (at : At) → Each SigBindIs binds → SpecIs (p.Structures binds at)
full-Structures binds at all =
    spec_by (bare_spec-Structures binds at)
    (spec-Structures (map bare_sig_bind binds) at (each-map (λ x. names_sig_bind x ≡ true) bare_sig_bind binds all), tt)

include_fits : (at : At) (name : Name) → FitName name → FitSpec (include_name at name)
include_fits at name is = spec-Include (sig.Named name (at_name name)) at (sig-Named name (at_name name) is)

others_fit : (names : List Name) → Each FitName names → Each FitSpec (map other_include names)
others_fit [] all = tt
others_fit (name ∷ names) all = (include_fits (at_name name) name all.0, others_fit names all.1)

names_fit : (at : At) (names : List Name) → Each FitName names → Each FitSpec (include_names at names)
names_fit at [] all = tt
names_fit at (name ∷ names) all = (include_fits at name all.0, others_fit names all.1)

pub full-IncludeNames : (names : List Name) (at : At) → Each FitName names → SpecIs (p.IncludeNames names at)
full-IncludeNames names at all =
    spec_by (ap bare_spec (sym (p.rolls-IncludeNames names at))
    ∙ fold-roll-FullSpec _ _ _ sig_level spec_level sig_bind_level (FullSpec-F.IncludeNames names at))
    (names_fit at names all)

pub full-Include : (inner : FullSigExp) (at : At) → SigIs inner → SpecIs (p.Include inner at)
full-Include inner at is =
    spec_by (ap bare_spec (sym (p.rolls-Include inner at))
    ∙ fold-roll-FullSpec _ _ _ sig_level spec_level sig_bind_level (FullSpec-F.Include inner at))
    (spec-Include (bare_sig inner) at is, tt)

-- ---- the law

pub new_names : NewNamesFit
new_names = record { labels = decimal_fits; arguments = arg_fits }
