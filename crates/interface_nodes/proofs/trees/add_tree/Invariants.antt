use Rattle.std.proofs.Common.{drop}
use Rattle.interface_nodes.proofs.Imaging.{Walk}
use Rattle.interface_nodes.proofs.trees.add_tree.Given as goal

abbrev pub invariant-loop-at : goal.invariant-loop-at
invariant-loop-at l = Walk l.fn.home l.nodes (drop l.at l.nodes) l.fn.table l.table l.images
