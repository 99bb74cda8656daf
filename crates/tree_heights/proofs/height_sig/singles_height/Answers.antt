use Rattle.tree_heights.specs.FullSigHeights.{desc_height}
use Rattle.tree_heights.proofs.Highest.{higher_step}
use Rattle.tree_heights.proofs.height_sig.singles_height.Goals as goal

pub loop-desc-preserved : goal.loop-desc-preserved
loop-desc-preserved c =
    higher_step desc_height c.args.descs.now c.loop-desc.desc-index c.desc-item.result c.loop-desc.made
    c.in_ok-single_height.field-0 c.max-made.result _ c.loop-desc-test.true c.desc-item.is c.in_ok-single_height.ensures
    c.max-made.ensures c.loop-desc.invariant
