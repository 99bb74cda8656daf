use Rattle.std.proofs.Common.{drop}
use Rattle.function_forms.proofs.Marking.{ReadsTo}
use Rattle.function_forms.proofs.admitting.root_admits.Given as goal

abbrev pub invariant-loop-node : goal.invariant-loop-node
invariant-loop-node l = ReadsTo l.nodes (drop l.node-index l.nodes) l.marked
