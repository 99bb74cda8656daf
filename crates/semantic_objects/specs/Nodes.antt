-- What a list of nodes unfolds to: each node names earlier ones as its parts, and the last one is the tree.
use Rattle.std.specs.Prelude.{◌≡◌, ℕ, ◌-◌, ◌<◌, List, [], ◌∷◌, ◌++◌, length, map, get_or, slice_get, Some}
use Rattle.semantic_objects.specs.declared.node.TypeNode.{TypeNode}
use Rattle.semantic_objects.specs.declared.node.TypeNode.TheVariants as node
use Rattle.semantic_objects.specs.Symbols.{part_count, HasRisingLabels}
use Rattle.semantic_objects.specs.Trees.{Tree, trees_of}

-- the tree of a place at which no node stands; no definition rests on it
abbrev pub nowhere : Tree
nowhere = Tree.Bound 0

-- the trees at places of a list
abbrev pub trees_at : List Tree → List ℕ → List Tree
trees_at made places = map (λ p. get_or made p nowhere) places

-- the tree of a node, from those of the nodes before it
abbrev pub node_tree : List Tree → TypeNode → Tree
node_tree made (node.Bound i) = Tree.Bound i
node_tree made (node.Free n) = Tree.Free n
node_tree made (node.Made c places) = Tree.Made c (trees_of (trees_at made places))

-- the trees of nodes in their order, after those that were made before
abbrev pub unfolded_after : List Tree → List TypeNode → List Tree
unfolded_after made [] = made
unfolded_after made (x ∷ xs) = unfolded_after (made ++ node_tree made x ∷ []) xs

-- the trees of nodes in their order
abbrev pub unfolded : List TypeNode → List Tree
unfolded nodes = unfolded_after [] nodes

-- the tree at a place
abbrev pub tree_at : List TypeNode → ℕ → Tree
tree_at nodes p = get_or (unfolded nodes) p nowhere

-- the tree of the whole list
abbrev pub root : List TypeNode → Tree
root nodes = tree_at nodes (length nodes - 1)

-- places before a place
abbrev pub AreBelow : ℕ → List ℕ → Type 0
AreBelow n [] = Unit {0}
AreBelow n (p ∷ ps) = (p < n) × AreBelow n ps

-- a node at place `n`: its parts stand before it, they are as many as its symbol takes, and labels rise
pub record IsOver (n : ℕ) (places : List ℕ) (count : ℕ) : Type 0 where
  pub below : AreBelow n places
  pub counted : length places ≡ count

abbrev pub IsNodeAt : ℕ → TypeNode → Type 0
IsNodeAt n (node.Bound i) = Unit {0}
IsNodeAt n (node.Free v) = Unit {0}
IsNodeAt n (node.Made c places) = IsOver n places (part_count c) × HasRisingLabels c

-- nodes of which each is a node at its place
pub record AreNodes (nodes : List TypeNode) : Type 0 where
  pub each : (p : ℕ) (x : TypeNode) → slice_get nodes p ≡ Some x → IsNodeAt p x

-- nodes that are a tree: there is a last one
pub record AreTree (xs : List TypeNode) : Type 0 where
  pub nodes : AreNodes xs
  pub some : 0 < length xs
