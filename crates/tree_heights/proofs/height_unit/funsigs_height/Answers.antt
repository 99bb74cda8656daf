use Rattle.tree_heights.specs.FullUnitHeights.{full_funsig}
use Rattle.tree_heights.proofs.Highest.{higher_step}
use Rattle.tree_heights.proofs.height_unit.funsigs_height.Goals as goal

pub loop-bind-preserved : goal.loop-bind-preserved
loop-bind-preserved c =
    higher_step full_funsig c.args.binds.now c.loop-bind.bind-index c.bind-item.result c.loop-bind.made
    c.in_ok-funsig_height.field-0 c.max-made.result _ c.loop-bind-test.true c.bind-item.is c.in_ok-funsig_height.ensures
    c.max-made.ensures c.loop-bind.invariant
