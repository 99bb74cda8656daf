use Rattle.std.proofs.Common.{◌≡◌, map, take}
use Rattle.canonical_types.specs.Orders.{by_order}
use Rattle.canonical_types.specs.Canonicals.{renamed_node}
use Rattle.canonical_types.proofs.renaming.renamed_nodes.Given as goal

abbrev pub invariant-loop-node : goal.invariant-loop-node
invariant-loop-node l = l.made ≡ map (renamed_node (by_order l.fn.by)) (take l.node-index l.fn.nodes)
