-- The levels of each form of a signature expression or a specification, by those of its parts.
use Rattle.std.proofs.Common.{◌≡◌, suc, max, List, sym, ap, ◌∙◌}
use Rattle.sml_trees.specs.declared.name.At.{At}
use Rattle.sml_trees.specs.declared.name.Name.{Name}
use Rattle.sml_trees.specs.declared.name.LongName.{LongName}
use Rattle.sml_trees.specs.declared.ty.TypDesc.{TypDesc}
use Rattle.sml_trees.specs.declared.full_ty.FullConBind.{FullConBind}
use Rattle.sml_trees.specs.declared.full_ty.FullDatBind.{FullDatBind}
use Rattle.sml_trees.specs.declared.full_ty.FullTypDesc.{FullTypDesc}
use Rattle.sml_trees.specs.declared.full_ty.FullValDesc.{FullValDesc}
use Rattle.sml_trees.specs.declared.full_sig.FullSigBind.{FullSigBind, roll-FullSigBind}
use Rattle.sml_trees.specs.declared.full_sig.FullSigExp.{FullSigExp}
use Rattle.sml_trees.specs.declared.full_sig.FullSigExp.TheOpen.{FullSigExp-F, FullSpec-F}
use Rattle.sml_trees.specs.declared.full_sig.FullSigExp.TheFolds.{fold-roll-FullSigExp, fold-roll-FullSpec, fold-roll-FullSigBind}
use Rattle.sml_trees.specs.declared.full_sig.FullSigExp.TheVariants as s
use Rattle.sml_trees.specs.declared.full_sig.FullSpec.{FullSpec}
use Rattle.sml_trees.specs.declared.full_sig.FullSpec.TheVariants as p
use Rattle.sml_trees.specs.declared.full_sig.FullWhere.{FullWhere}
use Rattle.level_laws.specs.Levels.{all_levels, where_levels, val_desc_levels, typ_desc_levels, con_bind_levels, dat_bind_levels, sig_step, spec_step, sig_bind_step, sig_levels, spec_levels, sig_bind_levels}

pub sig-Sig : (specs : List FullSpec) (at : At) → sig_levels (s.Sig specs at) ≡ suc (all_levels spec_levels specs)
unfolding sig_levels spec_levels sig_bind_levels
sig-Sig specs at =
    ap sig_levels (sym (s.rolls-Sig specs at))
    ∙ fold-roll-FullSigExp _ _ _ sig_step spec_step sig_bind_step (FullSigExp-F.Sig specs at)

pub sig-Named : (called : Name) (at : At) → sig_levels (s.Named called at) ≡ 1
unfolding sig_levels spec_levels sig_bind_levels
sig-Named called at =
    ap sig_levels (sym (s.rolls-Named called at))
    ∙ fold-roll-FullSigExp _ _ _ sig_step spec_step sig_bind_step (FullSigExp-F.Named called at)

pub sig-Where : (inner : FullSigExp) (types : List FullWhere) (at : At)
    → sig_levels (s.Where inner types at) ≡ suc (max (sig_levels inner) (all_levels where_levels types))
unfolding sig_levels spec_levels sig_bind_levels
sig-Where inner types at =
    ap sig_levels (sym (s.rolls-Where inner types at))
    ∙ fold-roll-FullSigExp _ _ _ sig_step spec_step sig_bind_step (FullSigExp-F.Where inner types at)

pub spec-Vals : (descs : List FullValDesc) (at : At)
    → spec_levels (p.Vals descs at) ≡ suc (all_levels val_desc_levels descs)
unfolding sig_levels spec_levels sig_bind_levels
spec-Vals descs at =
    ap spec_levels (sym (p.rolls-Vals descs at))
    ∙ fold-roll-FullSpec _ _ _ sig_step spec_step sig_bind_step (FullSpec-F.Vals descs at)

pub spec-Types : (descs : List FullTypDesc) (at : At)
    → spec_levels (p.Types descs at) ≡ suc (all_levels typ_desc_levels descs)
unfolding sig_levels spec_levels sig_bind_levels
spec-Types descs at =
    ap spec_levels (sym (p.rolls-Types descs at))
    ∙ fold-roll-FullSpec _ _ _ sig_step spec_step sig_bind_step (FullSpec-F.Types descs at)

pub spec-Eqtypes : (descs : List TypDesc) (at : At) → spec_levels (p.Eqtypes descs at) ≡ 1
unfolding sig_levels spec_levels sig_bind_levels
spec-Eqtypes descs at =
    ap spec_levels (sym (p.rolls-Eqtypes descs at))
    ∙ fold-roll-FullSpec _ _ _ sig_step spec_step sig_bind_step (FullSpec-F.Eqtypes descs at)

pub spec-Datatypes : (descs : List FullDatBind) (at : At)
    → spec_levels (p.Datatypes descs at) ≡ suc (all_levels dat_bind_levels descs)
unfolding sig_levels spec_levels sig_bind_levels
spec-Datatypes descs at =
    ap spec_levels (sym (p.rolls-Datatypes descs at))
    ∙ fold-roll-FullSpec _ _ _ sig_step spec_step sig_bind_step (FullSpec-F.Datatypes descs at)

pub spec-Replication : (called : Name) (long : LongName) (at : At) → spec_levels (p.Replication called long at) ≡ 1
unfolding sig_levels spec_levels sig_bind_levels
spec-Replication called long at =
    ap spec_levels (sym (p.rolls-Replication called long at))
    ∙ fold-roll-FullSpec _ _ _ sig_step spec_step sig_bind_step (FullSpec-F.Replication called long at)

pub spec-Exceptions : (descs : List FullConBind) (at : At)
    → spec_levels (p.Exceptions descs at) ≡ suc (all_levels con_bind_levels descs)
unfolding sig_levels spec_levels sig_bind_levels
spec-Exceptions descs at =
    ap spec_levels (sym (p.rolls-Exceptions descs at))
    ∙ fold-roll-FullSpec _ _ _ sig_step spec_step sig_bind_step (FullSpec-F.Exceptions descs at)

pub spec-Structures : (binds : List FullSigBind) (at : At)
    → spec_levels (p.Structures binds at) ≡ suc (all_levels sig_bind_levels binds)
unfolding sig_levels spec_levels sig_bind_levels
spec-Structures binds at =
    ap spec_levels (sym (p.rolls-Structures binds at))
    ∙ fold-roll-FullSpec _ _ _ sig_step spec_step sig_bind_step (FullSpec-F.Structures binds at)

pub spec-IncludeNames : (names : List Name) (at : At) → spec_levels (p.IncludeNames names at) ≡ 1
unfolding sig_levels spec_levels sig_bind_levels
spec-IncludeNames names at =
    ap spec_levels (sym (p.rolls-IncludeNames names at))
    ∙ fold-roll-FullSpec _ _ _ sig_step spec_step sig_bind_step (FullSpec-F.IncludeNames names at)

pub spec-Include : (inner : FullSigExp) (at : At) → spec_levels (p.Include inner at) ≡ suc (sig_levels inner)
unfolding sig_levels spec_levels sig_bind_levels
spec-Include inner at =
    ap spec_levels (sym (p.rolls-Include inner at))
    ∙ fold-roll-FullSpec _ _ _ sig_step spec_step sig_bind_step (FullSpec-F.Include inner at)

pub sig_bind-is : (called : Name) (inner : FullSigExp)
    → sig_bind_levels (roll-FullSigBind (record { name = called; sig = inner })) ≡ sig_levels inner
unfolding sig_levels spec_levels sig_bind_levels
sig_bind-is called inner =
    fold-roll-FullSigBind _ _ _ sig_step spec_step sig_bind_step (record { name = called; sig = inner })
