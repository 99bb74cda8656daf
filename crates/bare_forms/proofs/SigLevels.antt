-- What one level of a signature becomes, with what its parts become.
use Rattle.std.proofs.Common.{◌≡◌, List, [], ◌∷◌, ◌++◌, refl, sym, ap, ◌∙◌, map}
use Rattle.std.specs.List.{flat_map}
use Rattle.bare_forms.specs.Signatures.{sig_level, spec_level, sig_bind_level, bare_sig, bare_spec, bare_sig_bind}
use Rattle.sml_trees.specs.declared.name.At.{At}
use Rattle.sml_trees.specs.declared.full_sig.FullSigExp.TheOpen.{FullSigExp-F, FullSpec-F}
use Rattle.sml_trees.specs.declared.full_sig.FullSigExp.TheFolds.{fold-roll-FullSigExp, fold-roll-FullSpec, fold-roll-FullSigBind}
use Rattle.sml_trees.specs.declared.full_sig.FullSigExp.TheVariants as full
use Rattle.sml_trees.specs.declared.full_sig.FullSpec.{FullSpec}
use Rattle.sml_trees.specs.declared.full_sig.FullSpec.TheVariants as full_spec
use Rattle.sml_trees.specs.declared.full_sig.FullSigBind.{FullSigBind, out-FullSigBind, roll-out-FullSigBind}
use Rattle.sml_trees.specs.declared.sig_exp.SigExp.TheVariants as sig
use Rattle.sml_trees.specs.declared.sig_exp.Spec.TheVariants as spec
use Rattle.sml_trees.specs.declared.sig_exp.SigBind.{roll-SigBind}

-- lists that are made of each item, one behind the other
flat_map-map : {A B : Type 0} (f : A → List B) (xs : List A) → flat_map (λ each. each) (map f xs) ≡ flat_map f xs
flat_map-map f [] = refl
flat_map-map f (x ∷ xs) = ap (λ rest. f x ++ rest) (flat_map-map f xs)

pub bare_sig-Sig : (specs : List FullSpec) (at : At)
    → bare_sig (full.Sig specs at) ≡ sig.Sig (spec.Sequence (flat_map bare_spec specs) at) at
bare_sig-Sig specs at =
    ap bare_sig (sym (full.rolls-Sig specs at))
    ∙ fold-roll-FullSigExp _ _ _ sig_level spec_level sig_bind_level (FullSigExp-F.Sig specs at)
    ∙ ap (λ made. sig.Sig (spec.Sequence made at) at) (flat_map-map bare_spec specs)

pub bare_spec-Structures : (binds : List FullSigBind) (at : At)
    → bare_spec (full_spec.Structures binds at) ≡ spec.Structures (map bare_sig_bind binds) at ∷ []
bare_spec-Structures binds at =
    ap bare_spec (sym (full_spec.rolls-Structures binds at))
    ∙ fold-roll-FullSpec _ _ _ sig_level spec_level sig_bind_level (FullSpec-F.Structures binds at)

pub bare_sig_bind-kept : (bind : FullSigBind)
    → bare_sig_bind bind
    ≡ roll-SigBind (record { name = (out-FullSigBind bind).name; sig = bare_sig ((out-FullSigBind bind).sig) })
bare_sig_bind-kept bind =
    ap bare_sig_bind (sym (roll-out-FullSigBind bind))
    ∙ fold-roll-FullSigBind _ _ _ sig_level spec_level sig_bind_level (out-FullSigBind bind)

pub ruleset sig_levels = (bare_sig-Sig, bare_spec-Structures, bare_sig_bind-kept)
