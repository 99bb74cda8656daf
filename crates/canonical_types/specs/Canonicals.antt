-- Nodes of types with other names, and with their variables in another order.
use Rattle.std.specs.Prelude.{ℕ, List}
use Rattle.semantic_objects.specs.declared.name.TyName.{TyName}
use Rattle.semantic_objects.specs.declared.node.TypeNode.{TypeNode}
use Rattle.semantic_objects.specs.declared.node.TypeNode.TheVariants as node
use Rattle.unification.specs.Closing.{place_of}
use Rattle.realisation.specs.Canonical.{renamed_symbol}

abbrev pub renamed_node : (TyName → TyName) → TypeNode → TypeNode
renamed_node h (node.Bound i) = node.Bound i
renamed_node h (node.Free n) = node.Free n
renamed_node h (node.Made c places) = node.Made (renamed_symbol h c) places

abbrev pub reordered_node : List ℕ → TypeNode → TypeNode
reordered_node vs (node.Bound i) = node.Bound (place_of i vs)
reordered_node vs (node.Free n) = node.Free n
reordered_node vs (node.Made c places) = node.Made c places
