use Rattle.std.proofs.Common.{◌≤◌, length}
use Rattle.datatype_elab.specs.Wants.{need_in}
use Rattle.datatype_elab.proofs.Wanting.{Walk}
use Rattle.datatype_elab.proofs.wants.walk.Given as goal

abbrev pub invariant-loop-at : goal.invariant-loop-at
invariant-loop-at l = Walk (need_in l.fn.new) l.fn.nodes l.at l.marks l.fn.found l.found × (l.at ≤ length l.fn.nodes)

abbrev pub decreases-loop-at : goal.decreases-loop-at
decreases-loop-at l = l.at
