-- The heights of functors, of declarations of the top level and of units, by those of their parts.
use Rattle.std.proofs.Common.{◌≡◌, ℕ, suc, max, List, [], ◌∷◌, refl, sym, ap, ap₂, ◌∙◌, map, flat_map}
use Rattle.sml_trees.specs.declared.name.At.{At}
use Rattle.sml_trees.specs.declared.full_sig.FullSpec.{FullSpec}
use Rattle.sml_trees.specs.declared.full_sig.FullSigBind.{FullSigBind}
use Rattle.sml_trees.specs.declared.full_str.FullStrBind.{FullStrBind}
use Rattle.sml_trees.specs.declared.full_unit.FullUnit.{FullUnit}
use Rattle.sml_trees.specs.declared.full_unit.FullTopDec.{FullTopDec}
use Rattle.sml_trees.specs.declared.full_unit.FullTopDec.TheVariants as full
use Rattle.sml_trees.specs.declared.full_unit.FullParam.{FullParam}
use Rattle.sml_trees.specs.declared.full_unit.FullParam.TheVariants as param
use Rattle.sml_trees.specs.declared.full_unit.FullFunctorBind.{FullFunctorBind}
use Rattle.sml_trees.specs.declared.full_unit.FullFunsigBind.{FullFunsigBind}
use Rattle.sml_trees.specs.declared.sig_exp.Spec.TheVariants as spec
use Rattle.sml_trees.specs.declared.exp.Dec.TheVariants as dec
use Rattle.sml_trees.specs.declared.exp.StrExp.{StrExp}
use Rattle.bare_forms.specs.Patterns.{long_at}
use Rattle.bare_forms.specs.Signatures.{bare_sig, bare_spec, bare_sig_bind}
use Rattle.bare_forms.specs.Structures.{sealed, bare_str, bare_str_bind}
use Rattle.bare_forms.specs.Units.{param_text, spec_sig, opening, functor_of, bare_functor, bare_funsig, bare_topdec, bare_of}
use Rattle.tree_heights.specs.Heights.{highest, sig_height, spec_height, sig_bind_height, dec_height, str_height, str_bind_height, functor_height, funsig_height, topdec_height, unit_height}
use Rattle.tree_heights.specs.FullSigHeights.{full_sig, full_spec, full_sig_bind}
use Rattle.tree_heights.specs.FullUnitHeights.{full_str, seal_height, full_str_bind, with_param, full_functor, full_funsig, full_topdec}
use Rattle.tree_heights.proofs.Highest.{alone, map-map, grouped}
use Rattle.tree_heights.proofs.SigHeights.{sig_height-Sig, spec_height-Sequence}
use Rattle.tree_heights.proofs.NodeForms.{dec_height-Sequence, dec_height-Open, str_height-Within}
use Rattle.tree_heights.proofs.StrHeights.{seal-height}

-- `let open %S in body end`
opening-height : (at : At) (body : StrExp) → str_height (opening at body) ≡ suc (max 2 (str_height body))
opening-height at body =
    let opened = dec.Open (long_at at param_text ∷ []) at in
    str_height-Within (dec.Sequence (opened ∷ []) at) body at
    ∙ ap (λ h. suc (max h (str_height body)))
    (dec_height-Sequence (opened ∷ []) at
    ∙ ap suc (alone (dec_height opened) ∙ dec_height-Open (long_at at param_text ∷ []) at))

spec_sig-height : (at : At) (specs : List FullSpec)
    → sig_height (spec_sig at specs) ≡ suc (suc (highest (map full_spec specs)))
unfolding full_spec
spec_sig-height at specs =
    sig_height-Sig (spec.Sequence (flat_map bare_spec specs) at) at
    ∙ ap suc (spec_height-Sequence (flat_map bare_spec specs) at)
    ∙ ap (λ h. suc (suc h)) (grouped spec_height bare_spec specs 0)

functor-cases : (bind : FullFunctorBind) (p : FullParam)
    → functor_height (functor_of bind p) ≡ with_param p (seal_height bind.seal (full_str bind.body))
unfolding full_sig
functor-cases bind (param.Named name sig) =
    ap (max (sig_height (bare_sig sig))) (seal-height bind.seal bind.body)
functor-cases bind (param.Spec specs at) =
    ap₂ max (spec_sig-height at specs)
    (opening-height (bare_str bind.body).at (sealed bind.seal (bare_str bind.body))
    ∙ ap (λ h. suc (max 2 h)) (seal-height bind.seal bind.body))

pub full_functor-is : (bind : FullFunctorBind)
    → full_functor bind ≡ with_param bind.param (seal_height bind.seal (full_str bind.body))
unfolding full_functor
full_functor-is bind = functor-cases bind bind.param

pub ruleset functor_form = (full_functor-is)

pub full_funsig-is : (bind : FullFunsigBind)
    → full_funsig bind ≡ max (full_sig bind.param_sig) (full_sig bind.result_sig)
unfolding full_funsig full_sig
full_funsig-is bind = refl

pub ruleset funsig_form = (full_funsig-is)

pub full_topdec-Structures : (binds : List FullStrBind) (at : At)
    → full_topdec (full.Structures binds at) ≡ suc (highest (map full_str_bind binds))
unfolding full_topdec full_str_bind
full_topdec-Structures binds at = ap (λ hs. suc (highest hs)) (map-map str_bind_height bare_str_bind binds)

pub full_topdec-Signatures : (binds : List FullSigBind) (at : At)
    → full_topdec (full.Signatures binds at) ≡ suc (highest (map full_sig_bind binds))
unfolding full_topdec full_sig_bind
full_topdec-Signatures binds at = ap (λ hs. suc (highest hs)) (map-map sig_bind_height bare_sig_bind binds)

pub full_topdec-Functors : (binds : List FullFunctorBind) (at : At)
    → full_topdec (full.Functors binds at) ≡ suc (highest (map full_functor binds))
unfolding full_topdec full_functor
full_topdec-Functors binds at = ap (λ hs. suc (highest hs)) (map-map functor_height bare_functor binds)

pub full_topdec-Funsigs : (binds : List FullFunsigBind) (at : At)
    → full_topdec (full.Funsigs binds at) ≡ suc (highest (map full_funsig binds))
unfolding full_topdec full_funsig
full_topdec-Funsigs binds at = ap (λ hs. suc (highest hs)) (map-map funsig_height bare_funsig binds)

pub ruleset topdec_forms = (full_topdec-Structures, full_topdec-Signatures, full_topdec-Functors, full_topdec-Funsigs)

pub unit_height-is : (unit : FullUnit) → unit_height (bare_of unit) ≡ highest (map full_topdec unit.topdecs)
unfolding unit_height full_topdec
unit_height-is unit = ap highest (map-map topdec_height bare_topdec unit.topdecs)

pub ruleset unit_form = (unit_height-is)
