use Rattle.std.proofs.Common.{◌≡◌, map, take}
use Rattle.listed_types.specs.Listing.{list_node}
use Rattle.listed_types.proofs.closed.list_nodes.Given as goal

abbrev pub invariant-loop-node : goal.invariant-loop-node
invariant-loop-node l = l.made ≡ map (list_node l.first l.count) (take l.node-index l.nodes)
