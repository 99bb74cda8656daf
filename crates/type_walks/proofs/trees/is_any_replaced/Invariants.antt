use Rattle.std.proofs.Common.{drop}
use Rattle.type_walks.specs.Replaced.{AllStay}
use Rattle.type_walks.proofs.trees.is_any_replaced.Given as goal

abbrev pub invariant-loop-node : goal.invariant-loop-node
invariant-loop-node l = AllStay l.fn.by (drop l.node-index l.fn.nodes) → AllStay l.fn.by l.fn.nodes
