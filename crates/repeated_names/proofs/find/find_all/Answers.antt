use Rattle.repeated_names.proofs.Found.{phrase_step}
use Rattle.repeated_names.proofs.find.find_all.Goals as goal

pub loop-item-preserved : goal.loop-item-preserved
loop-item-preserved g c =
    phrase_step g.T.Searched.repeats c.args.items.now c.loop-item.item-index c.item-item.result c.loop-item.finder
    c.find.new.finder _ c.loop-item-test.true c.item-item.is c.in_ok-find.ensures c.loop-item.invariant
