use Rattle.datatype_elab.specs.Wants.{need_in}
use Rattle.datatype_elab.specs.Choosing.{Gathered}
use Rattle.datatype_elab.proofs.choice.gather.Given as goal

abbrev pub invariant-loop-at : goal.invariant-loop-at
invariant-loop-at l = Gathered (need_in l.fn.new) l.fn.dats l.at l.barred l.holders
