-- Nodes of types whose variables of a scheme are among the first.
use Rattle.std.specs.Prelude.{ℕ, ◌<◌, List, [], ◌∷◌}
use Rattle.semantic_objects.specs.declared.node.TypeNode.{TypeNode}
use Rattle.semantic_objects.specs.declared.node.TypeNode.TheVariants as node

abbrev pub IsNodeBelow : ℕ → TypeNode → Type 0
IsNodeBelow count (node.Bound i) = i < count
IsNodeBelow count (node.Free n) = Unit {0}
IsNodeBelow count (node.Made c places) = Unit {0}

abbrev pub AreNodesBelow : ℕ → List TypeNode → Type 0
AreNodesBelow count [] = Unit {0}
AreNodesBelow count (x ∷ xs) = IsNodeBelow count x × AreNodesBelow count xs
