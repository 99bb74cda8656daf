use Rattle.std.proofs.Common.{◌≡◌, drop, []}
use Rattle.environment_ages.proofs.Holding.{held_after}
use Rattle.environment_ages.proofs.trees.tree_holds.Given as goal

abbrev pub invariant-loop-node : goal.invariant-loop-node
invariant-loop-node l = held_after l.fn.limits l.held (drop l.node-index l.nodes) ≡ held_after l.fn.limits [] l.nodes
