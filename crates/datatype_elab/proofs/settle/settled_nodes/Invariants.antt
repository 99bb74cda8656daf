use Rattle.std.proofs.Common.{◌≡◌, map, take}
use Rattle.semantic_objects.specs.declared.node.TypeNode.TheVariants as node
use Rattle.static_semantics.specs.DatatypeInference.{settled_symbol}
use Rattle.listed_types.specs.Mapped.{mapped_node}
use Rattle.datatype_elab.proofs.settle.settled_nodes.Given as goal

abbrev pub invariant-loop-node : goal.invariant-loop-node
invariant-loop-node l =
    l.made ≡ map (mapped_node node.Free (settled_symbol l.new.home l.new.first l.choice)) (take l.node-index l.nodes)
