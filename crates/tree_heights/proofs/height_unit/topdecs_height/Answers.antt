use Rattle.tree_heights.specs.FullUnitHeights.{full_topdec}
use Rattle.tree_heights.proofs.Highest.{higher_step}
use Rattle.tree_heights.proofs.height_unit.topdecs_height.Goals as goal

pub loop-topdec-preserved : goal.loop-topdec-preserved
loop-topdec-preserved c =
    higher_step full_topdec c.args.topdecs.now c.loop-topdec.topdec-index c.topdec-item.result c.loop-topdec.made
    c.in_ok-topdec_height.field-0 c.max-made.result _ c.loop-topdec-test.true c.topdec-item.is c.in_ok-topdec_height.ensures
    c.max-made.ensures c.loop-topdec.invariant
