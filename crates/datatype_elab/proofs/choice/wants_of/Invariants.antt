use Rattle.std.proofs.Common.{drop}
use Rattle.datatype_elab.specs.Wants.{need_in}
use Rattle.datatype_elab.specs.Choosing.{cons_wanted}
use Rattle.datatype_elab.proofs.Choosing.{WantsSoFar}
use Rattle.datatype_elab.proofs.choice.wants_of.Given as goal

abbrev pub invariant-loop-con : goal.invariant-loop-con
invariant-loop-con l =
    WantsSoFar (cons_wanted (need_in l.fn.new) l.fn.cons) (cons_wanted (need_in l.fn.new) (drop l.con-index l.fn.cons))
    l.found
