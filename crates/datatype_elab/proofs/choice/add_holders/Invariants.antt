use Rattle.std.proofs.Common.{drop}
use Rattle.datatype_elab.proofs.Choosing.{HoldersSoFar}
use Rattle.datatype_elab.proofs.choice.add_holders.Given as goal

abbrev pub invariant-loop-want : goal.invariant-loop-want
invariant-loop-want l =
    HoldersSoFar l.fn.holders l.holders l.fn.wants (drop l.want-index l.fn.wants) l.fn.at
