use Rattle.std.proofs.lemmas.List.{take_more}
use Rattle.equality_types.proofs.Fallen.{falls_more}
use Rattle.equality_types.proofs.choice.refuse_all.Goals as goal

-- one more type of the list
pub loop-at-preserved : goal.loop-at-preserved
loop-at-preserved c =
    rw (take_more c.args.list.now c.loop-at.at-index 0 c.loop-at-test.true)
    (falls_more _ _ _ _ _ _ _ _ c.loop-at.invariant c.in_ok-refuse.ensures)
