use Rattle.std.proofs.Common.{◌≡◌, ◌++◌, map, drop}
use Rattle.semantic_objects.specs.Adding.{moved}
use Rattle.semantic_objects.proofs.node.add_nodes.Given as goal

abbrev pub invariant-loop-node : goal.invariant-loop-node
invariant-loop-node l =
    l.nodes ++ map (moved l.fn.by) (drop l.node-index l.fn.more) ≡ l.fn.nodes ++ map (moved l.fn.by) l.fn.more
