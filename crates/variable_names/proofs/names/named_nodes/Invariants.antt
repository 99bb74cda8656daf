use Rattle.std.proofs.Common.{◌≡◌, ◌++◌, map, drop}
use Rattle.variable_names.specs.Named.{named_node, AreApartNodes}
use Rattle.variable_names.proofs.names.named_nodes.Given as goal

abbrev pub invariant-loop-node : goal.invariant-loop-node
invariant-loop-node l = record {
  nodes : l.made ++ map named_node (drop l.node-index l.nodes) ≡ map named_node l.nodes;
  apart : AreApartNodes (drop l.node-index l.nodes) → AreApartNodes l.nodes;
}
