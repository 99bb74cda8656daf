use Rattle.std.proofs.Common.{◌≡◌, drop, []}
use Rattle.given_tops.proofs.Holding.{held_after}
use Rattle.given_tops.proofs.trees.tree_fits.Given as goal

abbrev pub invariant-loop-node : goal.invariant-loop-node
invariant-loop-node l =
    held_after l.fn.limits l.fn.own l.held (drop l.node-index l.nodes) ≡ held_after l.fn.limits l.fn.own [] l.nodes
