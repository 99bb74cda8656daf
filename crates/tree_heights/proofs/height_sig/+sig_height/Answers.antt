use Rattle.std.proofs.Common.{sym, ◌∙◌}
use Rattle.tree_heights.specs.FullSigHeights.{full_spec, full_sig_bind}
use Rattle.tree_heights.proofs.Highest.{higher_step}
use Rattle.tree_heights.proofs.SigHeights.{full_sig_bind-kept}
use Rattle.tree_heights.proofs.height_sig.+sig_height.Goals as goal

pub specs_height-loop-spec-preserved : goal.specs_height-loop-spec-preserved
specs_height-loop-spec-preserved t c =
    higher_step full_spec c.args.specs.now c.loop-spec.spec-index c.spec-item.result c.loop-spec.made
    c.in_ok-spec_height.field-0 c.max-made.result _ c.loop-spec-test.true c.spec-item.is c.in_ok-spec_height.ensures
    c.max-made.ensures c.loop-spec.invariant

pub sig_binds_height-loop-bind-preserved : goal.sig_binds_height-loop-bind-preserved
sig_binds_height-loop-bind-preserved t c =
    higher_step full_sig_bind c.args.binds.now c.loop-bind.bind-index c.bind-item.result c.loop-bind.made
    c.in_ok-sig_height.field-0 c.max-made.result _ c.loop-bind-test.true c.bind-item.is (c.in_ok-sig_height.ensures ∙ sym (full_sig_bind-kept c.bind-item.result))
    c.max-made.ensures c.loop-bind.invariant
