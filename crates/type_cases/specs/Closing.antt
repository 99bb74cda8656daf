-- Which variables of a scheme stand in nodes.
use Rattle.std.specs.Prelude.{ℕ, ◌<◌}
use Rattle.semantic_objects.specs.declared.node.TypeNode.{TypeNode}
use Rattle.semantic_objects.specs.declared.node.TypeNode.TheVariants as node

-- a node is no variable of a scheme, or one of so many
abbrev pub NodeBinds : ℕ → TypeNode → Type 0
NodeBinds k (node.Bound i) = i < k
NodeBinds k (node.Free n) = Unit {0}
NodeBinds k (node.Made c places) = Unit {0}
