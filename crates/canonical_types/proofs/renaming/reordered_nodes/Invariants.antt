use Rattle.std.proofs.Common.{◌≡◌, map, take}
use Rattle.canonical_types.specs.Canonicals.{reordered_node}
use Rattle.canonical_types.proofs.renaming.reordered_nodes.Given as goal

abbrev pub invariant-loop-node : goal.invariant-loop-node
invariant-loop-node l = l.made ≡ map (reordered_node l.fn.by) (take l.node-index l.fn.nodes)
