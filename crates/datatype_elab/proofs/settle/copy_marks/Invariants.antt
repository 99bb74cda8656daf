use Rattle.std.proofs.Common.{◌≡◌, take}
use Rattle.datatype_elab.proofs.settle.copy_marks.Given as goal

abbrev pub invariant-loop-mark : goal.invariant-loop-mark
invariant-loop-mark l = l.copy ≡ take l.mark-index l.marks
