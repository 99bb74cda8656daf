use Rattle.std.proofs.Common.{◌≡◌, drop}
use Rattle.datatype_elab.specs.Choosing.{has_none}
use Rattle.datatype_elab.proofs.choice.bars.Given as goal

abbrev pub invariant-loop-want : goal.invariant-loop-want
invariant-loop-want l = has_none (drop l.want-index l.wants) ≡ has_none l.wants
