-- The images of the nodes of a tree among the nodes that are made for another one. Only private functions cite this file.
use Rattle.std.specs.Prelude.{◌≡◌, ℕ, ◌<◌, ◌≤◌, List, length, map, slice_get, Some}
use Rattle.semantic_objects.specs.declared.node.TypeNode.{TypeNode}
use Rattle.semantic_objects.specs.Trees.{Tree, trees_of}
use Rattle.semantic_objects.specs.Nodes.{unfolded, tree_at, trees_at, AreNodes}
use Rattle.realisation.specs.Realised.{argument}

-- at each image stands what becomes of the tree at its node
pub record AreImages (become : Tree → Tree) (nodes made : List TypeNode) (images : List ℕ) : Type 0 where
  pub below : (p q : ℕ) → slice_get images p ≡ Some q → q < length made
  pub is : (p q : ℕ) → slice_get images p ≡ Some q → tree_at made q ≡ become (tree_at nodes p)

-- these are the images at some places
abbrev pub ArePicked : List ℕ → List ℕ → List ℕ → Type 0
ArePicked images places picked = map (λ p. slice_get images p) places ≡ map Some picked

-- the arguments at places
abbrev pub arguments_at : List TypeNode → List ℕ → ℕ → Tree
arguments_at made args i = argument i (trees_of (trees_at (unfolded made) args))

-- nodes were added
pub record Grown (old new : List TypeNode) : Type 0 where
  pub front : (p : ℕ) → p < length old → tree_at new p ≡ tree_at old p
  pub longer : length old ≤ length new
  pub nodes : AreNodes old → AreNodes new
