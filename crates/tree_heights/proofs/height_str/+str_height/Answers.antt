use Rattle.tree_heights.specs.FullUnitHeights.{full_str_dec, full_str_bind}
use Rattle.tree_heights.proofs.Highest.{higher_step}
use Rattle.tree_heights.proofs.height_str.+str_height.Goals as goal

pub str_decs_height-loop-dec-preserved : goal.str_decs_height-loop-dec-preserved
str_decs_height-loop-dec-preserved t c =
    higher_step full_str_dec c.args.decs.now c.loop-dec.dec-index c.dec-item.result c.loop-dec.made
    c.in_ok-str_dec_height.field-0 c.max-made.result _ c.loop-dec-test.true c.dec-item.is c.in_ok-str_dec_height.ensures
    c.max-made.ensures c.loop-dec.invariant

pub str_binds_height-loop-bind-preserved : goal.str_binds_height-loop-bind-preserved
str_binds_height-loop-bind-preserved t c =
    higher_step full_str_bind c.args.binds.now c.loop-bind.bind-index c.bind-item.result c.loop-bind.made
    c.in_ok-str_bind_height.field-0 c.max-made.result _ c.loop-bind-test.true c.bind-item.is c.in_ok-str_bind_height.ensures
    c.max-made.ensures c.loop-bind.invariant
