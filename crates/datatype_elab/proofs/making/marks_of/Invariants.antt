use Rattle.std.proofs.Common.{◌≡◌, take}
use Rattle.datatype_elab.specs.Making.{marks_of}
use Rattle.datatype_elab.proofs.making.marks_of.Given as goal

abbrev pub invariant-loop-row : goal.invariant-loop-row
invariant-loop-row l = l.marks ≡ marks_of (take l.row-index l.list)
