use Rattle.datatype_elab.specs.Wants.{need_in}
use Rattle.datatype_elab.proofs.Choosing.{gathered_none, gathered_more}
use Rattle.datatype_elab.proofs.choice.gather.Goals as goal

pub loop-at-init : goal.loop-at-init
loop-at-init c =
    gathered_none (need_in c.args.new.now) c.args.dats.now c.args.barred.now c.args.holders.now c.requires.barred
    c.requires.holders

pub loop-at-preserved : goal.loop-at-preserved
loop-at-preserved c =
    gathered_more (need_in c.args.new.now) c.args.dats.now c.loop-at.at c.index-dats-at.result c.loop-at.barred
    c.add_dat.new.barred c.loop-at.holders c.add_dat.new.holders c.loop-at.invariant c.loop-at-test.true
    c.index-dats-at.is c.in_ok-add_dat.ensures.barred c.in_ok-add_dat.ensures.holders
