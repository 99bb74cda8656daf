-- Nodes of types that stand in one list for those that stand in another one. Only private functions cite this file.
use Rattle.std.specs.Prelude.{◌≡◌, ℕ, ◌<◌, List, length, map, Some}
use Rattle.semantic_objects.specs.declared.node.TypeNode.{TypeNode}
use Rattle.semantic_objects.specs.declared.node.TypeNode.TheVariants as node
use Rattle.semantic_objects.specs.declared.symbol.Symbol.{Symbol}
use Rattle.semantic_objects.specs.Trees.{Tree}
use Rattle.semantic_objects.specs.Nodes.{node_tree, unfolded, tree_at, AreNodes, IsNodeAt}
use Rattle.environment_walks.specs.declared.places.Images.{Images}
use Rattle.environment_walks.specs.Changing.{image_in}

-- the image of a place: a place of the copies at which the same type stands
pub record IsImage (nodes copies : List TypeNode) (p q : ℕ) : Type 0 where
  pub within : q < length copies
  pub same : tree_at copies q ≡ tree_at nodes p

-- each image is one
pub record AreCopied (nodes copies : List TypeNode) (images : Images) : Type 0 where
  pub ordered : AreNodes copies
  pub each : (p q : ℕ) → image_in images p ≡ Some q → IsImage nodes copies p q

-- a node over the copies, which is this type
pub record IsCopy (copies : List TypeNode) (tree : Tree) (x : TypeNode) : Type 0 where
  pub node : IsNodeAt (length copies) x
  pub is : node_tree (unfolded copies) x ≡ tree

-- the images of some places
abbrev pub AreImages : Images → List ℕ → List ℕ → Type 0
AreImages images places made = map (image_in images) places ≡ map Some made

-- a symbol over the images of its parts
pub record CopiesOver (images : Images) (c : Symbol) (places : List ℕ) (x : TypeNode) : Type 0 where
  pub made : List ℕ
  pub is : x ≡ node.Made c made
  pub parts : AreImages images places made

-- the same node with images in place of places
abbrev pub CopiesOf : Images → TypeNode → TypeNode → Type 0
CopiesOf images (node.Bound i) x = x ≡ node.Bound i
CopiesOf images (node.Free n) x = x ≡ node.Free n
CopiesOf images (node.Made c places) x = CopiesOver images c places x
