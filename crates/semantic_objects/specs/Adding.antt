-- Nodes that are added to others, and the places at which trees stand then.
use Rattle.std.specs.Prelude.{◌≡◌, ℕ, ◌+◌, ◌<◌, ◌≤◌, List, ◌++◌, length, map}
use Rattle.semantic_objects.specs.declared.node.TypeNode.{TypeNode}
use Rattle.semantic_objects.specs.declared.node.TypeNode.TheVariants as node
use Rattle.semantic_objects.specs.Trees.{Tree}
use Rattle.semantic_objects.specs.Nodes.{trees_at, unfolded, tree_at, AreBelow, AreNodes}

-- a node whose parts stand so much further on
abbrev pub moved : ℕ → TypeNode → TypeNode
moved by (node.Bound i) = node.Bound i
moved by (node.Free n) = node.Free n
moved by (node.Made c places) = node.Made c (map (λ p. by + p) places)

-- nodes were added for a tree, which stands at a place; those that were there are the trees that they were
pub record Appended (old new : List TypeNode) (at : ℕ) (tree : Tree) : Type 0 where
  pub front : (p : ℕ) → p < length old → tree_at new p ≡ tree_at old p
  pub longer : length old ≤ length new
  pub there : tree_at new at ≡ tree
  pub within : at < length new
  pub nodes : AreNodes old → AreNodes new

-- the same for some trees
pub record Placed (old new : List TypeNode) (places : List ℕ) (trees : List Tree) : Type 0 where
  pub read : trees_at (unfolded new) places ≡ trees
  pub below : AreBelow (length new) places
  pub front : (p : ℕ) → p < length old → tree_at new p ≡ tree_at old p
  pub longer : length old ≤ length new
  pub nodes : AreNodes old → AreNodes new

-- .. while the rest of all is still to be added
pub record PlacedSoFar (old new : List TypeNode) (places : List ℕ) (rest all : List Tree) : Type 0 where
  pub read : trees_at (unfolded new) places ++ rest ≡ all
  pub below : AreBelow (length new) places
  pub front : (p : ℕ) → p < length old → tree_at new p ≡ tree_at old p
  pub longer : length old ≤ length new
  pub nodes : AreNodes old → AreNodes new
