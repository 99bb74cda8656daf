-- The phrase of each form of a signature expression and of a specification, by the phrases of its parts.
use Rattle.std.proofs.Common.{◌≡◌, List, sym, ap, ◌∙◌, map}
use Rattle.sml_trees.specs.declared.name.At.{At}
use Rattle.sml_trees.specs.declared.name.Name.{Name}
use Rattle.sml_trees.specs.declared.name.LongName.{LongName}
use Rattle.sml_trees.specs.declared.ty.Ty.{Ty}
use Rattle.sml_trees.specs.declared.ty.ConBind.{ConBind}
use Rattle.sml_trees.specs.declared.ty.DatBind.{DatBind}
use Rattle.sml_trees.specs.declared.ty.ValDesc.{ValDesc}
use Rattle.sml_trees.specs.declared.ty.TypDesc.{TypDesc}
use Rattle.sml_trees.specs.declared.sig_exp.SigExp.{SigExp}
use Rattle.sml_trees.specs.declared.sig_exp.SigExp.TheOpen.{SigExp-F, Spec-F}
use Rattle.sml_trees.specs.declared.sig_exp.SigExp.TheVariants as sigv
use Rattle.sml_trees.specs.declared.sig_exp.SigExp.TheFolds.{fold-roll-SigExp, fold-roll-Spec, fold-roll-SigBind}
use Rattle.sml_trees.specs.declared.sig_exp.Spec.{Spec}
use Rattle.sml_trees.specs.declared.sig_exp.Spec.TheVariants as specv
use Rattle.sml_trees.specs.declared.sig_exp.SigBind.{SigBind, out-SigBind, roll-out-SigBind}
use Rattle.bare_phrases.specs.PhraseOf.{ty_phrase, con_phrase, dat_phrase}
use Rattle.module_semantics.specs.SigPhrases.{SigPhrase, SpecPhrase, val_phrase, type_desc_phrase, sig_binds, spec_phrases, sig_level, spec_level, sig_bind_level, sig_phrase, spec_phrase}
use Rattle.signature_elab.specs.Phrases.{bind_phrase}

pub sig_phrase-Sig : (spec : Spec) (at : At) → sig_phrase (sigv.Sig spec at) ≡ SigPhrase.Sig (spec_phrase spec) at
unfolding sig_phrase spec_phrase
sig_phrase-Sig spec at =
    ap sig_phrase (sym (sigv.rolls-Sig spec at))
    ∙ fold-roll-SigExp _ _ _ sig_level spec_level sig_bind_level (SigExp-F.Sig spec at)

pub sig_phrase-Named : (name : Name) (at : At) → sig_phrase (sigv.Named name at) ≡ SigPhrase.Named name at
unfolding sig_phrase spec_phrase
sig_phrase-Named name at =
    ap sig_phrase (sym (sigv.rolls-Named name at))
    ∙ fold-roll-SigExp _ _ _ sig_level spec_level sig_bind_level (SigExp-F.Named name at)

pub sig_phrase-Where : (sig : SigExp) (tyvars : List Name) (long : LongName) (ty : Ty) (at : At)
    → sig_phrase (sigv.Where sig tyvars long ty at)
    ≡ SigPhrase.Where (sig_phrase sig) tyvars long (ty_phrase ty) at
unfolding sig_phrase spec_phrase
sig_phrase-Where sig tyvars long ty at =
    ap sig_phrase (sym (sigv.rolls-Where sig tyvars long ty at))
    ∙ fold-roll-SigExp _ _ _ sig_level spec_level sig_bind_level (SigExp-F.Where sig tyvars long ty at)

pub spec_phrase-Vals : (descs : List ValDesc) (at : At)
    → spec_phrase (specv.Vals descs at) ≡ SpecPhrase.Vals (map val_phrase descs) at
unfolding sig_phrase spec_phrase
spec_phrase-Vals descs at =
    ap spec_phrase (sym (specv.rolls-Vals descs at))
    ∙ fold-roll-Spec _ _ _ sig_level spec_level sig_bind_level (Spec-F.Vals descs at)

pub spec_phrase-Types : (descs : List TypDesc) (at : At)
    → spec_phrase (specv.Types descs at) ≡ SpecPhrase.Types (map type_desc_phrase descs) at
unfolding sig_phrase spec_phrase
spec_phrase-Types descs at =
    ap spec_phrase (sym (specv.rolls-Types descs at))
    ∙ fold-roll-Spec _ _ _ sig_level spec_level sig_bind_level (Spec-F.Types descs at)

pub spec_phrase-Eqtypes : (descs : List TypDesc) (at : At)
    → spec_phrase (specv.Eqtypes descs at) ≡ SpecPhrase.Eqtypes (map type_desc_phrase descs) at
unfolding sig_phrase spec_phrase
spec_phrase-Eqtypes descs at =
    ap spec_phrase (sym (specv.rolls-Eqtypes descs at))
    ∙ fold-roll-Spec _ _ _ sig_level spec_level sig_bind_level (Spec-F.Eqtypes descs at)

pub spec_phrase-Datatypes : (binds : List DatBind) (at : At)
    → spec_phrase (specv.Datatypes binds at) ≡ SpecPhrase.Datatypes (map dat_phrase binds) at
unfolding sig_phrase spec_phrase
spec_phrase-Datatypes binds at =
    ap spec_phrase (sym (specv.rolls-Datatypes binds at))
    ∙ fold-roll-Spec _ _ _ sig_level spec_level sig_bind_level (Spec-F.Datatypes binds at)

pub spec_phrase-Replication : (name : Name) (long : LongName) (at : At)
    → spec_phrase (specv.Replication name long at) ≡ SpecPhrase.Replication name long at
unfolding sig_phrase spec_phrase
spec_phrase-Replication name long at =
    ap spec_phrase (sym (specv.rolls-Replication name long at))
    ∙ fold-roll-Spec _ _ _ sig_level spec_level sig_bind_level (Spec-F.Replication name long at)

pub spec_phrase-Exceptions : (cons : List ConBind) (at : At)
    → spec_phrase (specv.Exceptions cons at) ≡ SpecPhrase.Exceptions (map con_phrase cons) at
unfolding sig_phrase spec_phrase
spec_phrase-Exceptions cons at =
    ap spec_phrase (sym (specv.rolls-Exceptions cons at))
    ∙ fold-roll-Spec _ _ _ sig_level spec_level sig_bind_level (Spec-F.Exceptions cons at)

pub spec_phrase-Structures : (binds : List SigBind) (at : At)
    → spec_phrase (specv.Structures binds at) ≡ SpecPhrase.Structures (sig_binds (map bind_phrase binds)) at
unfolding sig_phrase spec_phrase bind_phrase
spec_phrase-Structures binds at =
    ap spec_phrase (sym (specv.rolls-Structures binds at))
    ∙ fold-roll-Spec _ _ _ sig_level spec_level sig_bind_level (Spec-F.Structures binds at)

pub spec_phrase-Include : (sig : SigExp) (at : At)
    → spec_phrase (specv.Include sig at) ≡ SpecPhrase.Include (sig_phrase sig) at
unfolding sig_phrase spec_phrase
spec_phrase-Include sig at =
    ap spec_phrase (sym (specv.rolls-Include sig at))
    ∙ fold-roll-Spec _ _ _ sig_level spec_level sig_bind_level (Spec-F.Include sig at)

pub spec_phrase-Sequence : (specs : List Spec) (at : At)
    → spec_phrase (specv.Sequence specs at) ≡ SpecPhrase.Sequence (spec_phrases (map spec_phrase specs)) at
unfolding sig_phrase spec_phrase
spec_phrase-Sequence specs at =
    ap spec_phrase (sym (specv.rolls-Sequence specs at))
    ∙ fold-roll-Spec _ _ _ sig_level spec_level sig_bind_level (Spec-F.Sequence specs at)

pub bind_phrase-kept : (bind : SigBind)
    → bind_phrase bind ≡ ((out-SigBind bind).name, sig_phrase (out-SigBind bind).sig)
unfolding sig_phrase spec_phrase bind_phrase
bind_phrase-kept bind =
    ap bind_phrase (sym (roll-out-SigBind bind))
    ∙ fold-roll-SigBind _ _ _ sig_level spec_level sig_bind_level (out-SigBind bind)
