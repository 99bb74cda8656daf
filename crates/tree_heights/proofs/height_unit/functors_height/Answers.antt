use Rattle.tree_heights.specs.FullUnitHeights.{full_functor}
use Rattle.tree_heights.proofs.Highest.{higher_step}
use Rattle.tree_heights.proofs.height_unit.functors_height.Goals as goal

pub loop-bind-preserved : goal.loop-bind-preserved
loop-bind-preserved c =
    higher_step full_functor c.args.binds.now c.loop-bind.bind-index c.bind-item.result c.loop-bind.made
    c.in_ok-functor_height.field-0 c.max-made.result _ c.loop-bind-test.true c.bind-item.is c.in_ok-functor_height.ensures
    c.max-made.ensures c.loop-bind.invariant
