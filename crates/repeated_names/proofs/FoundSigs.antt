-- The lists of one level of a signature.
use Rattle.std.proofs.Common.{◌≡◌, List, ◌++◌, sym, ap, ◌∙◌, map}
use Rattle.sml_trees.specs.declared.name.At.{At}
use Rattle.sml_trees.specs.declared.full_sig.FullWhere.{FullWhere}
use Rattle.sml_trees.specs.declared.full_sig.FullSigExp.{FullSigExp}
use Rattle.sml_trees.specs.declared.full_sig.FullSigExp.TheOpen.{FullSigExp-F, FullSpec-F}
use Rattle.sml_trees.specs.declared.full_sig.FullSigExp.TheFolds.{fold-roll-FullSigExp, fold-roll-FullSpec, fold-roll-FullSigBind}
use Rattle.sml_trees.specs.declared.full_sig.FullSigExp.TheVariants as full_sig
use Rattle.sml_trees.specs.declared.full_sig.FullSpec.{FullSpec}
use Rattle.sml_trees.specs.declared.full_sig.FullSpec.TheVariants as full_spec
use Rattle.sml_trees.specs.declared.full_sig.FullSigBind.{FullSigBind, out-FullSigBind, roll-out-FullSigBind}
use Rattle.repeated_names.specs.Repeats.{member, repeats_in, all_repeats}
use Rattle.repeated_names.specs.RepeatedTypes.{where_repeats, sig_level, spec_level, sig_bind_level, sig_repeats, spec_repeats, sig_bind_member}
use Rattle.repeated_names.proofs.Found.{earliest_with-append}

pub sig_repeats-Sig : (specs : List FullSpec) (at : At)
    → sig_repeats (full_sig.Sig specs at) ≡ all_repeats (map spec_repeats specs)
sig_repeats-Sig specs at =
    ap sig_repeats (sym (full_sig.rolls-Sig specs at))
    ∙ fold-roll-FullSigExp _ _ _ sig_level spec_level sig_bind_level (FullSigExp-F.Sig specs at)

pub sig_repeats-Where : (inner : FullSigExp) (wheres : List FullWhere) (at : At)
    → sig_repeats (full_sig.Where inner wheres at) ≡ sig_repeats inner ++ all_repeats (map where_repeats wheres)
sig_repeats-Where inner wheres at =
    ap sig_repeats (sym (full_sig.rolls-Where inner wheres at))
    ∙ fold-roll-FullSigExp _ _ _ sig_level spec_level sig_bind_level (FullSigExp-F.Where inner wheres at)

pub spec_repeats-Structures : (binds : List FullSigBind) (at : At)
    → spec_repeats (full_spec.Structures binds at) ≡ repeats_in (map sig_bind_member binds)
spec_repeats-Structures binds at =
    ap spec_repeats (sym (full_spec.rolls-Structures binds at))
    ∙ fold-roll-FullSpec _ _ _ sig_level spec_level sig_bind_level (FullSpec-F.Structures binds at)

pub sig_bind_member-kept : (bind : FullSigBind) → sig_bind_member bind ≡ member (out-FullSigBind bind).name (sig_repeats (out-FullSigBind bind).sig)
sig_bind_member-kept bind =
    ap sig_bind_member (sym (roll-out-FullSigBind bind))
    ∙ fold-roll-FullSigBind _ _ _ sig_level spec_level sig_bind_level (out-FullSigBind bind)

pub ruleset sig_steps = (earliest_with-append, sig_repeats-Sig, sig_repeats-Where, spec_repeats-Structures, sig_bind_member-kept)
