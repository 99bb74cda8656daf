-- The nodes of a tree, whether it has them alone or shares them. Only private functions cite this file.
use Rattle.std.specs.Prelude.{List}
use Rattle.semantic_objects.specs.declared.node.TypeNode.{TypeNode}
use Rattle.semantic_objects.specs.declared.shared.Held.{Held}
use Rattle.semantic_objects.specs.declared.shared.Held.TheVariants as held

abbrev pub nodes_of : Held → List TypeNode
nodes_of (held.Alone nodes) = nodes
nodes_of (held.Shared nodes) = nodes.value
