-- The bodies of bare signatures are sequences; and what holds of each item of a list.
use Rattle.std.proofs.Common.{◌≡◌, Bool, true, false, List, [], ◌∷◌, ◌++◌, Option, Some, None, if◌then◌else◌, ◌&&◌, refl, sym, ap, ap₂, ◌∙◌, subst, map, flat_map, All}
use Rattle.std.proofs.lemmas.List.Elements.{All-head, All-tail}
use Rattle.std.specs.List.{list_all}
use Rattle.sml_trees.specs.CoreLets.{all_true}
use Rattle.sml_trees.specs.declared.name.At.{At}
use Rattle.sml_trees.specs.declared.name.Name.{Name}
use Rattle.sml_trees.specs.declared.name.LongName.{LongName}
use Rattle.sml_trees.specs.declared.ty.Ty.{Ty}
use Rattle.sml_trees.specs.declared.ty.TypDesc.{TypDesc}
use Rattle.sml_trees.specs.declared.ty.ValDesc.{ValDesc}
use Rattle.sml_trees.specs.declared.ty.DatBind.{DatBind}
use Rattle.sml_trees.specs.declared.ty.ConBind.{ConBind}
use Rattle.sml_trees.specs.declared.full_ty.FullTy.{FullTy}
use Rattle.sml_trees.specs.declared.full_ty.FullTypDesc.{FullTypDesc}
use Rattle.sml_trees.specs.declared.full_sig.FullSigExp.{FullSigExp, roll-FullSigExp}
use Rattle.sml_trees.specs.declared.full_sig.FullSigExp.TheOpen.{FullSigExp-F, FullSpec-F, FullSigBind-F}
use Rattle.sml_trees.specs.declared.full_sig.FullSigExp.TheFolds.{map-FullSigExp, map-FullSpec, map-FullSigBind, fold-roll-FullSigExp, fold-roll-FullSpec, fold-roll-FullSigBind, ind-FullSigExp, ind-FullSpec, ind-FullSigBind}
use Rattle.sml_trees.specs.declared.full_sig.FullSpec.{FullSpec, roll-FullSpec}
use Rattle.sml_trees.specs.declared.full_sig.FullSigBind.{FullSigBind, roll-FullSigBind}
use Rattle.sml_trees.specs.declared.full_sig.FullWhere.{FullWhere}
use Rattle.sml_trees.specs.declared.sig_exp.SigExp.{SigExp}
use Rattle.sml_trees.specs.declared.sig_exp.SigExp.TheOpen.{SigExp-F, Spec-F}
use Rattle.sml_trees.specs.declared.sig_exp.SigExp.TheFolds.{map-Spec, fold-roll-SigExp, fold-roll-Spec, fold-roll-SigBind}
use Rattle.sml_trees.specs.declared.sig_exp.SigExp.TheVariants as sig
use Rattle.sml_trees.specs.declared.sig_exp.Spec.{Spec, roll-Spec}
use Rattle.sml_trees.specs.declared.sig_exp.Spec.TheVariants as spec
use Rattle.sml_trees.specs.declared.sig_exp.SigBind.{SigBind}
use Rattle.bare_forms.specs.Types.{bare_ty, plain_desc, bare_con_bind, bare_dat_bind, bare_val_desc}
use Rattle.bare_forms.specs.Patterns.{at_name, long_name}
use Rattle.bare_forms.specs.Signatures.{where_sig, one_type, type_sig, single_spec, single_of, has_type, include_name, other_include, include_names, sig_level, spec_level, sig_bind_level, bare_sig, bare_spec, bare_sig_bind}
use Rattle.code_laws.specs.Plain.{Body, plain_of, body_of, several, sig_plain, spec_plain, sig_bind_plain, plain_sig, plain_spec, plain_sig_bind}

-- ---- what holds of each item of a list

abbrev pub Each : {A : Type 0} → (A → Type 0) → List A → Type 0
Each P [] = Unit {0}
Each P (x ∷ xs) = P x × Each P xs

pub every : {A : Type 0} (P : A → Type 0) → ((x : A) → P x) → (xs : List A) → Each P xs
every P is [] = tt
every P is (x ∷ xs) = (is x, every P is xs)

pub each_of_all : {A : Type 0} (P : A → Type 0) (xs : List A) → All P xs → Each P xs
each_of_all P [] all = tt
each_of_all P (x ∷ xs) all = (All-head P x xs all, each_of_all P xs (All-tail P x xs all))

pub each-map : {A B : Type 0} (P : B → Type 0) (f : A → B) (xs : List A) → Each (λ x. P (f x)) xs → Each P (map f xs)
each-map P f [] all = tt
each-map P f (x ∷ xs) all = (all.0, each-map P f xs all.1)

pub each-held : {A : Type 0} (P : A → Type 0) (held : List ((x : A) × P x)) → Each P (map (λ h. h.0) held)
each-held P [] = tt
each-held P (h ∷ held) = (h.1, each-held P held)

each-append : {A : Type 0} (P : A → Type 0) (xs ys : List A) → Each P xs → Each P ys → Each P (xs ++ ys)
each-append P [] ys first second = second
each-append P (x ∷ xs) ys first second = (first.0, each-append P xs ys first.1 second)

pub each-flat : {A B : Type 0} (P : B → Type 0) (f : A → List B) (xs : List A) → Each (λ x. Each P (f x)) xs
    → Each P (flat_map f xs)
each-flat P f [] all = tt
each-flat P f (x ∷ xs) all = each-append P (f x) (flat_map f xs) all.0 (each-flat P f xs all.1)

pub both-true : (a b : Bool) → a ≡ true → b ≡ true → a && b ≡ true
both-true a b first second = ap₂ (λ x y. x && y) first second

pub each-true : {A : Type 0} (f : A → Bool) (xs : List A) → Each (λ x. f x ≡ true) xs → all_true (map f xs) ≡ true
each-true f [] all = refl
each-true f (x ∷ xs) all = both-true (f x) (all_true (map f xs)) all.0 (each-true f xs all.1)

pub each-all : {A : Type 0} (f : A → Bool) (xs : List A) → Each (λ x. f x ≡ true) xs → list_all f xs ≡ true
each-all f [] all = refl
each-all f (x ∷ xs) all = both-true (f x) (list_all f xs) all.0 (each-all f xs all.1)

-- the parts of a sequence of plain ones
pub plains : {A : Type 0} (f : A → Body) (xs : List A) → Each (λ x. plain_of (f x) ≡ true) xs
    → list_all plain_of (map f xs) ≡ true
plains f [] all = refl
plains f (x ∷ xs) all = both-true (plain_of (f x)) (list_all plain_of (map f xs)) all.0 (plains f xs all.1)

-- ---- nodes

abbrev pub GoodSig : SigExp → Type 0
GoodSig s = plain_sig s ≡ true

abbrev pub GoodSpec : Spec → Type 0
GoodSpec s = plain_of (plain_spec s) ≡ true

abbrev pub GoodSigBind : SigBind → Type 0
GoodSigBind b = plain_sig_bind b ≡ true

sequence-is : (specs : List Spec) (at : At) → Each GoodSpec specs → plain_spec (spec.Sequence specs at) ≡ several true
sequence-is specs at all =
    ap plain_spec (sym (spec.rolls-Sequence specs at))
    ∙ fold-roll-Spec _ _ _ sig_plain spec_plain sig_bind_plain (Spec-F.Sequence specs at) ∙ ap several (plains plain_spec specs all)

-- `sig specs end`
pub good-Sig : (specs : List Spec) (at : At) → Each GoodSpec specs → GoodSig (sig.Sig (spec.Sequence specs at) at)
good-Sig specs at all =
    ap plain_sig (sym (sig.rolls-Sig (spec.Sequence specs at) at))
    ∙ fold-roll-SigExp _ _ _ sig_plain spec_plain sig_bind_plain (SigExp-F.Sig (spec.Sequence specs at) at)
    ∙ ap body_of (sequence-is specs at all)

good-Named : (name : Name) (at : At) → GoodSig (sig.Named name at)
good-Named name at =
    ap plain_sig (sym (sig.rolls-Named name at))
    ∙ fold-roll-SigExp _ _ _ sig_plain spec_plain sig_bind_plain (SigExp-F.Named name at)

good-Where : (s : SigExp) (vars : List Name) (long : LongName) (t : Ty) (at : At) → GoodSig s
    → GoodSig (sig.Where s vars long t at)
good-Where s vars long t at is =
    ap plain_sig (sym (sig.rolls-Where s vars long t at))
    ∙ fold-roll-SigExp _ _ _ sig_plain spec_plain sig_bind_plain (SigExp-F.Where s vars long t at) ∙ is

-- a specification of such a level
spec-is : (l : Spec-F SigExp Spec SigBind) (x : Spec) → roll-Spec l ≡ x
    → plain_of (spec_plain (map-Spec _ _ _ _ _ _ plain_sig plain_spec plain_sig_bind l)) ≡ true → GoodSpec x
spec-is l x is good =
    ap (λ (y : Spec). plain_of (plain_spec y)) (sym is)
    ∙ ap plain_of (fold-roll-Spec _ _ _ sig_plain spec_plain sig_bind_plain l) ∙ good

good-Vals : (descs : List ValDesc) (at : At) → GoodSpec (spec.Vals descs at)
good-Vals descs at = spec-is (Spec-F.Vals descs at) _ (spec.rolls-Vals descs at) refl

good-Types : (descs : List TypDesc) (at : At) → GoodSpec (spec.Types descs at)
good-Types descs at = spec-is (Spec-F.Types descs at) _ (spec.rolls-Types descs at) refl

good-Eqtypes : (descs : List TypDesc) (at : At) → GoodSpec (spec.Eqtypes descs at)
good-Eqtypes descs at = spec-is (Spec-F.Eqtypes descs at) _ (spec.rolls-Eqtypes descs at) refl

good-Datatypes : (binds : List DatBind) (at : At) → GoodSpec (spec.Datatypes binds at)
good-Datatypes binds at = spec-is (Spec-F.Datatypes binds at) _ (spec.rolls-Datatypes binds at) refl

good-Replication : (name : Name) (long : LongName) (at : At) → GoodSpec (spec.Replication name long at)
good-Replication name long at = spec-is (Spec-F.Replication name long at) _ (spec.rolls-Replication name long at) refl

good-Exceptions : (cons : List ConBind) (at : At) → GoodSpec (spec.Exceptions cons at)
good-Exceptions cons at = spec-is (Spec-F.Exceptions cons at) _ (spec.rolls-Exceptions cons at) refl

good-Structures : (binds : List SigBind) (at : At) → Each GoodSigBind binds → GoodSpec (spec.Structures binds at)
good-Structures binds at all =
    spec-is (Spec-F.Structures binds at) _ (spec.rolls-Structures binds at) (each-true plain_sig_bind binds all)

good-Include : (s : SigExp) (at : At) → GoodSig s → GoodSpec (spec.Include s at)
good-Include s at is = spec-is (Spec-F.Include s at) _ (spec.rolls-Include s at) is

-- ---- derived forms

good-where : (at : At) (inner : SigExp) (wheres : List FullWhere) → GoodSig inner → GoodSig (where_sig at inner wheres)
good-where at inner [] is = is
good-where at inner (w ∷ ws) is =
    good-where at (sig.Where inner w.tyvars w.long (bare_ty w.ty) at) ws
    (good-Where inner w.tyvars w.long (bare_ty w.ty) at is)

good-single : (at : At) (desc : TypDesc) (t : Option FullTy) → GoodSpec (single_spec at desc t)
good-single at desc None = good-Types (desc ∷ []) at
good-single at desc (Some t) =
    good-Include (sig.Where (type_sig at desc) desc.tyvars (long_name desc.name) (bare_ty t) at) at
    (good-Where (type_sig at desc) desc.tyvars (long_name desc.name) (bare_ty t) at
    (good-Sig (one_type at desc ∷ []) at (good-Types (desc ∷ []) at, tt)))

types-if : (some : Bool) (at : At) (descs : List FullTypDesc)
    → Each GoodSpec (if some then map (single_of at) descs else (spec.Types (map plain_desc descs) at ∷ []))
types-if true at descs =
    each-map GoodSpec (single_of at) descs
    (every (λ d. GoodSpec (single_of at d)) (λ d. good-single at (plain_desc d) d.ty) descs)
types-if false at descs = (good-Types (map plain_desc descs) at, tt)

good-include : (at : At) (name : Name) → GoodSpec (include_name at name)
good-include at name = good-Include (sig.Named name (at_name name)) at (good-Named name (at_name name))

good-includes : (at : At) (names : List Name) → Each GoodSpec (include_names at names)
good-includes at [] = tt
good-includes at (name ∷ names) = (
  good-include at name,
  each-map GoodSpec other_include names
      (every (λ n. GoodSpec (other_include n)) (λ n. good-include (at_name n) n) names),
)

-- ---- each phrase

abbrev SigIs : FullSigExp → Type 0
SigIs x = GoodSig (bare_sig x)

abbrev SpecIs : FullSpec → Type 0
SpecIs x = Each GoodSpec (bare_spec x)

abbrev BindIs : FullSigBind → Type 0
BindIs x = GoodSigBind (bare_sig_bind x)

abbrev HeldSig : Type 0
HeldSig = (x : FullSigExp) × SigIs x

abbrev HeldSpec : Type 0
HeldSpec = (x : FullSpec) × SpecIs x

abbrev HeldBind : Type 0
HeldBind = (x : FullSigBind) × BindIs x

-- `sig specs end`, of several specifications
pub good-specs : (at : At) (specs : List FullSpec) → Each SpecIs specs
    → GoodSig (sig.Sig (spec.Sequence (flat_map (λ each. each) (map bare_spec specs)) at) at)
good-specs at specs all =
    good-Sig (flat_map (λ each. each) (map bare_spec specs)) at
    (each-flat GoodSpec (λ each. each) (map bare_spec specs) (each-map (λ d. Each GoodSpec d) bare_spec specs all))

sig_parts : (y : FullSigExp-F HeldSig HeldSpec HeldBind) → GoodSig (sig_level (map-FullSigExp _ _ _ _ _ _ bare_sig bare_spec bare_sig_bind (map-FullSigExp _ _ _ _ _ _ (λ h. h.0) (λ h. h.0) (λ h. h.0) y)))
sig_parts (FullSigExp-F.Sig specs at) = good-specs at (map (λ h. h.0) specs) (each-held SpecIs specs)
sig_parts (FullSigExp-F.Named name at) = good-Named name at
sig_parts (FullSigExp-F.Where inner wheres at) = good-where at (bare_sig inner.0) wheres inner.1

spec_parts : (y : FullSpec-F HeldSig HeldSpec HeldBind) → Each GoodSpec (spec_level (map-FullSpec _ _ _ _ _ _ bare_sig bare_spec bare_sig_bind (map-FullSpec _ _ _ _ _ _ (λ h. h.0) (λ h. h.0) (λ h. h.0) y)))
spec_parts (FullSpec-F.Vals descs at) = (good-Vals (map bare_val_desc descs) at, tt)
spec_parts (FullSpec-F.Types descs at) = types-if (has_type descs) at descs
spec_parts (FullSpec-F.Eqtypes descs at) = (good-Eqtypes descs at, tt)
spec_parts (FullSpec-F.Datatypes binds at) = (good-Datatypes (map bare_dat_bind binds) at, tt)
spec_parts (FullSpec-F.Replication name long at) = (good-Replication name long at, tt)
spec_parts (FullSpec-F.Exceptions cons at) = (good-Exceptions (map bare_con_bind cons) at, tt)
spec_parts (FullSpec-F.Structures binds at) = (
  good-Structures (map bare_sig_bind (map (λ h. h.0) binds)) at
      (each-map GoodSigBind bare_sig_bind (map (λ h. h.0) binds) (each-held BindIs binds)),
  tt,
)
spec_parts (FullSpec-F.IncludeNames names at) = good-includes at names
spec_parts (FullSpec-F.Include inner at) = (good-Include (bare_sig inner.0) at inner.1, tt)

sig_step : (x : FullSigExp-F FullSigExp FullSpec FullSigBind) (y : FullSigExp-F HeldSig HeldSpec HeldBind) → map-FullSigExp _ _ _ _ _ _ (λ h. h.0) (λ h. h.0) (λ h. h.0) y ≡ x → SigIs (roll-FullSigExp x)
sig_step x y is = subst (λ (z : FullSigExp-F FullSigExp FullSpec FullSigBind). SigIs (roll-FullSigExp z)) is
    (subst (λ (s : SigExp). GoodSig s) (sym (fold-roll-FullSigExp _ _ _ sig_level spec_level sig_bind_level (map-FullSigExp _ _ _ _ _ _ (λ h. h.0) (λ h. h.0) (λ h. h.0) y))) (sig_parts y))

spec_step : (x : FullSpec-F FullSigExp FullSpec FullSigBind) (y : FullSpec-F HeldSig HeldSpec HeldBind) → map-FullSpec _ _ _ _ _ _ (λ h. h.0) (λ h. h.0) (λ h. h.0) y ≡ x → SpecIs (roll-FullSpec x)
spec_step x y is = subst (λ (z : FullSpec-F FullSigExp FullSpec FullSigBind). SpecIs (roll-FullSpec z)) is
    (subst (λ (s : List Spec). Each GoodSpec s) (sym (fold-roll-FullSpec _ _ _ sig_level spec_level sig_bind_level (map-FullSpec _ _ _ _ _ _ (λ h. h.0) (λ h. h.0) (λ h. h.0) y))) (spec_parts y))

bind_step : (x : FullSigBind-F FullSigExp FullSpec FullSigBind) (y : FullSigBind-F HeldSig HeldSpec HeldBind) → map-FullSigBind _ _ _ _ _ _ (λ h. h.0) (λ h. h.0) (λ h. h.0) y ≡ x → BindIs (roll-FullSigBind x)
bind_step x y is = subst (λ (z : FullSigBind-F FullSigExp FullSpec FullSigBind). BindIs (roll-FullSigBind z)) is
    (subst (λ (b : SigBind). GoodSigBind b) (sym (fold-roll-FullSigBind _ _ _ sig_level spec_level sig_bind_level (map-FullSigBind _ _ _ _ _ _ (λ h. h.0) (λ h. h.0) (λ h. h.0) y)))
    (fold-roll-SigBind _ _ _ sig_plain spec_plain sig_bind_plain (record { name = y.name; sig = bare_sig y.sig.0 }) ∙ y.sig.1))

-- a bare signature
pub sig_is : (x : FullSigExp) → GoodSig (bare_sig x)
sig_is = ind-FullSigExp SigIs SpecIs BindIs sig_step spec_step bind_step

pub spec_is : (x : FullSpec) → Each GoodSpec (bare_spec x)
spec_is = ind-FullSpec SigIs SpecIs BindIs sig_step spec_step bind_step

pub sig_bind_is : (x : FullSigBind) → GoodSigBind (bare_sig_bind x)
sig_bind_is = ind-FullSigBind SigIs SpecIs BindIs sig_step spec_step bind_step
