use Rattle.equality_types.proofs.Fallen.{falls_barred, falls_unbarred}
use Rattle.equality_types.proofs.choice.refuse_barred.Goals as goal
use Rattle.equality_types.proofs.choice.refuse_barred.Goals.{then-barred-at+in_ok-refuse, else-barred-at}

-- one more type
pub loop-at-preserved : goal.loop-at-preserved
loop-at-preserved c = elim c.if-barred-at.branch [
  | then-barred-at+in_ok-refuse w ↦ rw (w.choice-is, w.work-is)
      (falls_barred c.args.barred.now _ _ _ _ _ _ c.loop-at.at c.loop-at.invariant w.if-barred-at.true
      w.in_ok-refuse.ensures)
  | else-barred-at w ↦ rw (w.choice-is, w.work-is)
      (falls_unbarred c.args.barred.now _ _ _ _ c.loop-at.at c.loop-at.invariant w.if-barred-at.false)
]
