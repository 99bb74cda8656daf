-- Equality of the types of nodes, where what is known of earlier nodes is a list. Only private functions cite this file.
use Rattle.std.specs.Prelude.{◌≡◌, ℕ, List, map, Bool, true}
use Rattle.semantic_objects.specs.declared.node.TypeNode.{TypeNode}
use Rattle.semantic_objects.specs.Trees.{Tree, trees_of}
use Rattle.semantic_objects.specs.Nodes.{node_tree, trees_at}
use Rattle.unification.specs.Types.{Marks}
use Rattle.unification.specs.Generality.{tree_admits, trees_admit}

-- whether a type admits equality, where the variables of a type function do
abbrev pub admits : Marks → Tree → Bool
admits q tree = tree_admits (λ i. true) q tree

-- what is known of the types of some nodes, whichever variables of a table are marked
abbrev pub Knows : List Tree → List Bool → Type 0
Knows trees marked = (q : Marks) → map (admits q) trees ≡ marked

-- whether those at some places do
abbrev pub parts_admit : Marks → List Tree → List ℕ → Bool
parts_admit q trees places = trees_admit (λ i. true) q (trees_of (trees_at trees places))

abbrev pub PartsAdmit : List Bool → List ℕ → Bool → Type 0
PartsAdmit marked places all =
    (trees : List Tree) → Knows trees marked → (q : Marks) → all ≡ parts_admit q trees places

-- whether the type of the next node does
abbrev pub NodeAdmits : List Bool → TypeNode → Bool → Type 0
NodeAdmits marked node all = (trees : List Tree) → Knows trees marked → (q : Marks) → all ≡ admits q (node_tree trees node)
