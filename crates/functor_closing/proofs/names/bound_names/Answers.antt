use Rattle.functor_closing.proofs.Naming.{bound_next}
use Rattle.functor_closing.proofs.names.bound_names.Goals as goal

pub loop-old-preserved : goal.loop-old-preserved
loop-old-preserved c = bound_next c.args.first c.loop-old.old-index c.args.olds.now c.old-item.result c.loop-old.names
    c.add.new.self c.in_ok-number.number c.len.result c.loop-old-test.true c.old-item.is c.loop-old.invariant
    c.len.ensures c.in_ok-number.ensures c.in_ok-add.ensures.ok
