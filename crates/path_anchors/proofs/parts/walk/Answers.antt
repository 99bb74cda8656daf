use Rattle.path_anchors.proofs.PartLemmas.{walk_stops, err_is}
use Rattle.path_anchors.proofs.parts.walk.Goals as goal

pub returns-in_err-step : goal.returns-in_err-step
returns-in_err-step c =
    walk_stops c.from_residual.result c.in_err-step.field-0.0 c.args.parts.now c.loop-part.part-index c.part-item.result
    c.loop-part.here c.step.new.here _ (err_is c.from_residual.result _ c.from_residual.ensures.1) c.loop-part-test.true
    c.part-item.is c.in_err-step.ensures c.loop-part.invariant
