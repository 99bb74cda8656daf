-- The height of one form of a signature or a specification as it is written, by those of its parts.
use Rattle.std.proofs.Common.{◌≡◌, ℕ, suc, max, Bool, true, false, List, [], ◌∷◌, Option, Some, None, if◌then◌else◌, refl, sym, ap, ap₂, ◌∙◌, map, flat_map}
use Rattle.sml_trees.specs.declared.name.At.{At}
use Rattle.sml_trees.specs.declared.name.Name.{Name}
use Rattle.sml_trees.specs.declared.name.LongName.{LongName}
use Rattle.sml_trees.specs.declared.full_ty.FullTy.{FullTy}
use Rattle.sml_trees.specs.declared.full_ty.FullTypDesc.{FullTypDesc}
use Rattle.sml_trees.specs.declared.full_ty.FullConBind.{FullConBind}
use Rattle.sml_trees.specs.declared.full_ty.FullDatBind.{FullDatBind}
use Rattle.sml_trees.specs.declared.full_ty.FullValDesc.{FullValDesc}
use Rattle.sml_trees.specs.declared.full_sig.FullWhere.{FullWhere}
use Rattle.sml_trees.specs.declared.full_sig.FullSigExp.{FullSigExp}
use Rattle.sml_trees.specs.declared.full_sig.FullSigExp.TheOpen.{FullSigExp-F, FullSpec-F}
use Rattle.sml_trees.specs.declared.full_sig.FullSigExp.TheFolds.{fold-roll-FullSigExp, fold-roll-FullSpec}
use Rattle.sml_trees.specs.declared.full_sig.FullSigExp.TheVariants as full
use Rattle.sml_trees.specs.declared.full_sig.FullSpec.{FullSpec}
use Rattle.sml_trees.specs.declared.full_sig.FullSpec.TheVariants as full_spec
use Rattle.sml_trees.specs.declared.full_sig.FullSigBind.{FullSigBind, out-FullSigBind}
use Rattle.sml_trees.specs.declared.ty.Ty.{Ty}
use Rattle.sml_trees.specs.declared.ty.TypDesc.{TypDesc}
use Rattle.sml_trees.specs.declared.ty.ConBind.{ConBind}
use Rattle.sml_trees.specs.declared.ty.DatBind.{DatBind}
use Rattle.sml_trees.specs.declared.ty.ValDesc.{ValDesc}
use Rattle.sml_trees.specs.declared.sig_exp.SigExp.{SigExp}
use Rattle.sml_trees.specs.declared.sig_exp.SigExp.TheOpen.{SigExp-F, Spec-F, SigBind-F}
use Rattle.sml_trees.specs.declared.sig_exp.SigExp.TheFolds.{fold-roll-SigExp, fold-roll-Spec, fold-roll-SigBind}
use Rattle.sml_trees.specs.declared.sig_exp.SigExp.TheVariants as sig
use Rattle.sml_trees.specs.declared.sig_exp.Spec.{Spec}
use Rattle.sml_trees.specs.declared.sig_exp.Spec.TheVariants as spec
use Rattle.sml_trees.specs.declared.sig_exp.SigBind.{SigBind, roll-SigBind}
use Rattle.bare_forms.specs.Types.{bare_ty, plain_desc, bare_con_bind, bare_dat_bind, bare_val_desc}
use Rattle.bare_forms.specs.Patterns.{at_name, long_name}
use Rattle.bare_forms.specs.Signatures.{where_sig, one_type, type_sig, single_spec, single_of, has_type, type_specs, include_name, other_include, include_names, bare_sig, bare_spec, bare_sig_bind, sig_level, spec_level, sig_bind_level}
use Rattle.tree_heights.specs.Heights.{highest_with, highest, ty_height, con_height, dat_height, val_desc_height, sig_step, spec_step, sig_bind_step, sig_height, spec_height, sig_bind_height}
use Rattle.tree_heights.specs.FullHeights.{full_ty, full_con, full_dat, full_val_desc}
use Rattle.tree_heights.specs.FullSigHeights.{where_height, single_height, desc_height, types_height, includes_height, full_sig, full_spec, full_sig_bind}
use Rattle.bare_forms.proofs.SigLevels.{bare_sig-Sig, bare_spec-Structures, bare_sig_bind-kept}
use Rattle.tree_heights.proofs.Highest.{alone, map-map, grouped, map-same}

-- ---- bare signatures

pub sig_height-Sig : (inner : Spec) (at : At) → sig_height (sig.Sig inner at) ≡ suc (spec_height inner)
sig_height-Sig inner at =
    ap sig_height (sym (sig.rolls-Sig inner at))
    ∙ fold-roll-SigExp _ _ _ sig_step spec_step sig_bind_step (SigExp-F.Sig inner at)

sig_height-Named : (name : Name) (at : At) → sig_height (sig.Named name at) ≡ 1
sig_height-Named name at =
    ap sig_height (sym (sig.rolls-Named name at))
    ∙ fold-roll-SigExp _ _ _ sig_step spec_step sig_bind_step (SigExp-F.Named name at)

sig_height-Where : (inner : SigExp) (tyvars : List Name) (long : LongName) (t : Ty) (at : At) → sig_height (sig.Where inner tyvars long t at) ≡ suc (max (sig_height inner) (ty_height t))
sig_height-Where inner tyvars long t at =
    ap sig_height (sym (sig.rolls-Where inner tyvars long t at))
    ∙ fold-roll-SigExp _ _ _ sig_step spec_step sig_bind_step (SigExp-F.Where inner tyvars long t at)

spec_height-Vals : (descs : List ValDesc) (at : At) → spec_height (spec.Vals descs at) ≡ suc (highest (map val_desc_height descs))
spec_height-Vals descs at =
    ap spec_height (sym (spec.rolls-Vals descs at))
    ∙ fold-roll-Spec _ _ _ sig_step spec_step sig_bind_step (Spec-F.Vals descs at)

spec_height-Types : (descs : List TypDesc) (at : At) → spec_height (spec.Types descs at) ≡ 1
spec_height-Types descs at =
    ap spec_height (sym (spec.rolls-Types descs at))
    ∙ fold-roll-Spec _ _ _ sig_step spec_step sig_bind_step (Spec-F.Types descs at)

spec_height-Eqtypes : (descs : List TypDesc) (at : At) → spec_height (spec.Eqtypes descs at) ≡ 1
spec_height-Eqtypes descs at =
    ap spec_height (sym (spec.rolls-Eqtypes descs at))
    ∙ fold-roll-Spec _ _ _ sig_step spec_step sig_bind_step (Spec-F.Eqtypes descs at)

spec_height-Datatypes : (binds : List DatBind) (at : At) → spec_height (spec.Datatypes binds at) ≡ suc (highest (map dat_height binds))
spec_height-Datatypes binds at =
    ap spec_height (sym (spec.rolls-Datatypes binds at))
    ∙ fold-roll-Spec _ _ _ sig_step spec_step sig_bind_step (Spec-F.Datatypes binds at)

spec_height-Replication : (name : Name) (long : LongName) (at : At) → spec_height (spec.Replication name long at) ≡ 1
spec_height-Replication name long at =
    ap spec_height (sym (spec.rolls-Replication name long at))
    ∙ fold-roll-Spec _ _ _ sig_step spec_step sig_bind_step (Spec-F.Replication name long at)

spec_height-Exceptions : (cons : List ConBind) (at : At) → spec_height (spec.Exceptions cons at) ≡ suc (highest (map con_height cons))
spec_height-Exceptions cons at =
    ap spec_height (sym (spec.rolls-Exceptions cons at))
    ∙ fold-roll-Spec _ _ _ sig_step spec_step sig_bind_step (Spec-F.Exceptions cons at)

spec_height-Structures : (binds : List SigBind) (at : At) → spec_height (spec.Structures binds at) ≡ suc (highest (map sig_bind_height binds))
spec_height-Structures binds at =
    ap spec_height (sym (spec.rolls-Structures binds at))
    ∙ fold-roll-Spec _ _ _ sig_step spec_step sig_bind_step (Spec-F.Structures binds at)

spec_height-Include : (inner : SigExp) (at : At) → spec_height (spec.Include inner at) ≡ suc (sig_height inner)
spec_height-Include inner at =
    ap spec_height (sym (spec.rolls-Include inner at))
    ∙ fold-roll-Spec _ _ _ sig_step spec_step sig_bind_step (Spec-F.Include inner at)

pub spec_height-Sequence : (specs : List Spec) (at : At) → spec_height (spec.Sequence specs at) ≡ suc (highest (map spec_height specs))
spec_height-Sequence specs at =
    ap spec_height (sym (spec.rolls-Sequence specs at))
    ∙ fold-roll-Spec _ _ _ sig_step spec_step sig_bind_step (Spec-F.Sequence specs at)

sig_bind_height-kept : (name : Name) (inner : SigExp)
    → sig_bind_height (roll-SigBind (record { name = name; sig = inner })) ≡ sig_height inner
sig_bind_height-kept name inner =
    fold-roll-SigBind _ _ _ sig_step spec_step sig_bind_step (record { name = name; sig = inner })

-- ---- derived forms

where-height : (at : At) (inner : SigExp) (wheres : List FullWhere)
    → sig_height (where_sig at inner wheres) ≡ where_height (sig_height inner) wheres
unfolding full_ty
where-height at inner [] = refl
where-height at inner (w ∷ ws) =
    where-height at (sig.Where inner w.tyvars w.long (bare_ty w.ty) at) ws
    ∙ ap (λ h. where_height h ws) (sig_height-Where inner w.tyvars w.long (bare_ty w.ty) at)

type_sig-height : (at : At) (desc : TypDesc) → sig_height (type_sig at desc) ≡ 3
type_sig-height at desc =
    sig_height-Sig (spec.Sequence (one_type at desc ∷ []) at) at
    ∙ ap suc (spec_height-Sequence (one_type at desc ∷ []) at
    ∙ ap suc (alone (spec_height (one_type at desc)) ∙ spec_height-Types (desc ∷ []) at))

single-height : (at : At) (desc : TypDesc) (t : Option FullTy) → spec_height (single_spec at desc t) ≡ single_height t
unfolding full_ty
single-height at desc None = spec_height-Types (desc ∷ []) at
single-height at desc (Some t) =
    spec_height-Include _ at
    ∙ ap suc (sig_height-Where (type_sig at desc) desc.tyvars (long_name desc.name) (bare_ty t) at
    ∙ ap (λ h. suc (max h (ty_height (bare_ty t)))) (type_sig-height at desc))

desc-height : (at : At) (desc : FullTypDesc) → spec_height (single_of at desc) ≡ desc_height desc
desc-height at desc = single-height at (plain_desc desc) desc.ty

types-cases : (at : At) (descs : List FullTypDesc) (b : Bool)
    → highest (map spec_height (if b then map (single_of at) descs else (spec.Types (map plain_desc descs) at ∷ [])))
    ≡ if b then highest (map desc_height descs) else 1
types-cases at descs true =
    ap highest (map-map spec_height (single_of at) descs
    ∙ map-same (λ desc. spec_height (single_of at desc)) desc_height (desc-height at) descs)
types-cases at descs false =
    alone (spec_height (spec.Types (map plain_desc descs) at)) ∙ spec_height-Types (map plain_desc descs) at

include-height : (at : At) (name : Name) → spec_height (include_name at name) ≡ 2
include-height at name =
    spec_height-Include (sig.Named name (at_name name)) at ∙ ap suc (sig_height-Named name (at_name name))

twos : (names : List Name) → highest_with 2 (map (λ n. spec_height (other_include n)) names) ≡ 2
twos [] = refl
twos (name ∷ names) =
    ap (λ h. highest_with (max 2 h) (map (λ n. spec_height (other_include n)) names)) (include-height (at_name name) name)
    ∙ twos names

includes-height : (at : At) (names : List Name)
    → highest (map spec_height (include_names at names)) ≡ includes_height names
includes-height at [] = refl
includes-height at (name ∷ names) =
    ap₂ (λ first others. highest_with (max 0 first) others) (include-height at name)
    (map-map spec_height other_include names)
    ∙ twos names

-- ---- signatures as they are written

bare-Named : (name : Name) (at : At) → bare_sig (full.Named name at) ≡ sig.Named name at
bare-Named name at =
    ap bare_sig (sym (full.rolls-Named name at))
    ∙ fold-roll-FullSigExp _ _ _ sig_level spec_level sig_bind_level (FullSigExp-F.Named name at)

bare-Where : (inner : FullSigExp) (wheres : List FullWhere) (at : At) → bare_sig (full.Where inner wheres at) ≡ where_sig at (bare_sig inner) wheres
bare-Where inner wheres at =
    ap bare_sig (sym (full.rolls-Where inner wheres at))
    ∙ fold-roll-FullSigExp _ _ _ sig_level spec_level sig_bind_level (FullSigExp-F.Where inner wheres at)

bare-Vals : (descs : List FullValDesc) (at : At) → bare_spec (full_spec.Vals descs at) ≡ spec.Vals (map bare_val_desc descs) at ∷ []
bare-Vals descs at =
    ap bare_spec (sym (full_spec.rolls-Vals descs at))
    ∙ fold-roll-FullSpec _ _ _ sig_level spec_level sig_bind_level (FullSpec-F.Vals descs at)

bare-Types : (descs : List FullTypDesc) (at : At) → bare_spec (full_spec.Types descs at) ≡ type_specs at descs
bare-Types descs at =
    ap bare_spec (sym (full_spec.rolls-Types descs at))
    ∙ fold-roll-FullSpec _ _ _ sig_level spec_level sig_bind_level (FullSpec-F.Types descs at)

bare-Eqtypes : (descs : List TypDesc) (at : At) → bare_spec (full_spec.Eqtypes descs at) ≡ spec.Eqtypes descs at ∷ []
bare-Eqtypes descs at =
    ap bare_spec (sym (full_spec.rolls-Eqtypes descs at))
    ∙ fold-roll-FullSpec _ _ _ sig_level spec_level sig_bind_level (FullSpec-F.Eqtypes descs at)

bare-Datatypes : (binds : List FullDatBind) (at : At) → bare_spec (full_spec.Datatypes binds at) ≡ spec.Datatypes (map bare_dat_bind binds) at ∷ []
bare-Datatypes binds at =
    ap bare_spec (sym (full_spec.rolls-Datatypes binds at))
    ∙ fold-roll-FullSpec _ _ _ sig_level spec_level sig_bind_level (FullSpec-F.Datatypes binds at)

bare-Replication : (name : Name) (long : LongName) (at : At) → bare_spec (full_spec.Replication name long at) ≡ spec.Replication name long at ∷ []
bare-Replication name long at =
    ap bare_spec (sym (full_spec.rolls-Replication name long at))
    ∙ fold-roll-FullSpec _ _ _ sig_level spec_level sig_bind_level (FullSpec-F.Replication name long at)

bare-Exceptions : (cons : List FullConBind) (at : At) → bare_spec (full_spec.Exceptions cons at) ≡ spec.Exceptions (map bare_con_bind cons) at ∷ []
bare-Exceptions cons at =
    ap bare_spec (sym (full_spec.rolls-Exceptions cons at))
    ∙ fold-roll-FullSpec _ _ _ sig_level spec_level sig_bind_level (FullSpec-F.Exceptions cons at)

bare-IncludeNames : (names : List Name) (at : At) → bare_spec (full_spec.IncludeNames names at) ≡ include_names at names
bare-IncludeNames names at =
    ap bare_spec (sym (full_spec.rolls-IncludeNames names at))
    ∙ fold-roll-FullSpec _ _ _ sig_level spec_level sig_bind_level (FullSpec-F.IncludeNames names at)

bare-Include : (inner : FullSigExp) (at : At) → bare_spec (full_spec.Include inner at) ≡ spec.Include (bare_sig inner) at ∷ []
bare-Include inner at =
    ap bare_spec (sym (full_spec.rolls-Include inner at))
    ∙ fold-roll-FullSpec _ _ _ sig_level spec_level sig_bind_level (FullSpec-F.Include inner at)

pub full_sig-Sig : (specs : List FullSpec) (at : At)
    → full_sig (full.Sig specs at) ≡ suc (suc (highest (map full_spec specs)))
unfolding full_sig full_spec
full_sig-Sig specs at =
    ap sig_height (bare_sig-Sig specs at)
    ∙ sig_height-Sig (spec.Sequence (flat_map bare_spec specs) at) at
    ∙ ap suc (spec_height-Sequence (flat_map bare_spec specs) at)
    ∙ ap (λ h. suc (suc h)) (grouped spec_height bare_spec specs 0)

pub full_sig-Named : (name : Name) (at : At) → full_sig (full.Named name at) ≡ 1
unfolding full_sig
full_sig-Named name at = ap sig_height (bare-Named name at) ∙ sig_height-Named name at

pub full_sig-Where : (inner : FullSigExp) (wheres : List FullWhere) (at : At)
    → full_sig (full.Where inner wheres at) ≡ where_height (full_sig inner) wheres
unfolding full_sig
full_sig-Where inner wheres at = ap sig_height (bare-Where inner wheres at) ∙ where-height at (bare_sig inner) wheres

pub ruleset sig_forms = (full_sig-Sig, full_sig-Named, full_sig-Where)

-- ---- specifications as they are written

one-spec : (specs : List Spec) (only : Spec) (height : ℕ) → specs ≡ only ∷ [] → spec_height only ≡ height
    → highest (map spec_height specs) ≡ height
one-spec specs only height one deep =
    ap (λ ss. highest (map spec_height ss)) one ∙ alone (spec_height only) ∙ deep

pub full_spec-Vals : (descs : List FullValDesc) (at : At) → full_spec (full_spec.Vals descs at) ≡ suc (highest (map full_val_desc descs))
unfolding full_spec full_val_desc
full_spec-Vals descs at =
    one-spec _ (spec.Vals (map bare_val_desc descs) at) _ (bare-Vals descs at)
    (spec_height-Vals (map bare_val_desc descs) at ∙ ap (λ hs. suc (highest hs)) (map-map val_desc_height bare_val_desc descs))

pub full_spec-Types : (descs : List FullTypDesc) (at : At) → full_spec (full_spec.Types descs at) ≡ types_height descs
unfolding full_spec
full_spec-Types descs at =
    ap (λ ss. highest (map spec_height ss)) (bare-Types descs at) ∙ types-cases at descs (has_type descs)

pub full_spec-Eqtypes : (descs : List TypDesc) (at : At) → full_spec (full_spec.Eqtypes descs at) ≡ 1
unfolding full_spec
full_spec-Eqtypes descs at =
    one-spec _ (spec.Eqtypes descs at) _ (bare-Eqtypes descs at)
    (spec_height-Eqtypes descs at)

pub full_spec-Datatypes : (binds : List FullDatBind) (at : At) → full_spec (full_spec.Datatypes binds at) ≡ suc (highest (map full_dat binds))
unfolding full_spec full_dat
full_spec-Datatypes binds at =
    one-spec _ (spec.Datatypes (map bare_dat_bind binds) at) _ (bare-Datatypes binds at)
    (spec_height-Datatypes (map bare_dat_bind binds) at ∙ ap (λ hs. suc (highest hs)) (map-map dat_height bare_dat_bind binds))

pub full_spec-Replication : (name : Name) (long : LongName) (at : At) → full_spec (full_spec.Replication name long at) ≡ 1
unfolding full_spec
full_spec-Replication name long at =
    one-spec _ (spec.Replication name long at) _ (bare-Replication name long at)
    (spec_height-Replication name long at)

pub full_spec-Exceptions : (cons : List FullConBind) (at : At) → full_spec (full_spec.Exceptions cons at) ≡ suc (highest (map full_con cons))
unfolding full_spec full_con
full_spec-Exceptions cons at =
    one-spec _ (spec.Exceptions (map bare_con_bind cons) at) _ (bare-Exceptions cons at)
    (spec_height-Exceptions (map bare_con_bind cons) at ∙ ap (λ hs. suc (highest hs)) (map-map con_height bare_con_bind cons))

pub full_spec-Structures : (binds : List FullSigBind) (at : At)
    → full_spec (full_spec.Structures binds at) ≡ suc (highest (map full_sig_bind binds))
unfolding full_spec full_sig_bind
full_spec-Structures binds at =
    one-spec _ (spec.Structures (map bare_sig_bind binds) at) _ (bare_spec-Structures binds at)
    (spec_height-Structures (map bare_sig_bind binds) at
    ∙ ap (λ hs. suc (highest hs)) (map-map sig_bind_height bare_sig_bind binds))

pub full_spec-IncludeNames : (names : List Name) (at : At)
    → full_spec (full_spec.IncludeNames names at) ≡ includes_height names
unfolding full_spec
full_spec-IncludeNames names at =
    ap (λ ss. highest (map spec_height ss)) (bare-IncludeNames names at) ∙ includes-height at names

pub full_spec-Include : (inner : FullSigExp) (at : At) → full_spec (full_spec.Include inner at) ≡ suc (full_sig inner)
unfolding full_spec full_sig
full_spec-Include inner at =
    one-spec _ (spec.Include (bare_sig inner) at) _ (bare-Include inner at)
    (spec_height-Include (bare_sig inner) at)

pub full_sig_bind-kept : (bind : FullSigBind) → full_sig_bind bind ≡ full_sig (out-FullSigBind bind).sig
unfolding full_sig full_sig_bind
full_sig_bind-kept bind =
    ap sig_bind_height (bare_sig_bind-kept bind)
    ∙ sig_bind_height-kept (out-FullSigBind bind).name (bare_sig (out-FullSigBind bind).sig)

pub ruleset spec_forms = (
  full_spec-Vals,
  full_spec-Types,
  full_spec-Eqtypes,
  full_spec-Datatypes,
  full_spec-Replication,
  full_spec-Exceptions,
  full_spec-Structures,
  full_spec-IncludeNames,
  full_spec-Include,
)
