-- Types of a table as nodes of a tree. Only private functions cite this file.
use Rattle.std.specs.Prelude.{◌≡◌, ℕ, ◌<◌, List, [], ◌∷◌, ◌++◌, length, map, slice_get, Some, ◌⊎◌}
use Rattle.semantic_objects.specs.declared.name.TyId.{TyId}
use Rattle.semantic_objects.specs.declared.node.TypeNode.{TypeNode}
use Rattle.semantic_objects.specs.Trees.{Tree}
use Rattle.semantic_objects.specs.Nodes.{node_tree, trees_at, unfolded, tree_at, AreBelow, IsNodeAt, AreNodes}
use Rattle.unification.specs.Types.{Ty}
use Rattle.unification.specs.Closing.{closed_over}
use Rattle.type_nodes.specs.Tables.{Table, whole}
use Rattle.type_schemes.specs.declared.flat.Flat.{Flat}

-- the types that ids stand for, closed over these variables
abbrev pub closed_all : Table → List ℕ → List TyId → List Tree
closed_all t vs ids = map (λ a. closed_over vs (whole t a)) ids

-- at a place stands the tree of what an id stands for
pub record IsTreeAt (t : Table) (vs : List ℕ) (nodes : List TypeNode) (a : TyId) (place : ℕ) : Type 0 where
  pub within : place < length nodes
  pub tree : tree_at nodes place ≡ closed_over vs (whole t a)

-- the first of these ids have their places
pub record AreFlat (t : Table) (vs : List ℕ) (ids : List TyId) (f : Flat) : Type 0 where
  pub nodes : AreNodes f.nodes
  pub each : (p place : ℕ) (a : TyId) → slice_get ids p ≡ Some a → slice_get f.places p ≡ Some place → IsTreeAt t vs f.nodes a place

-- a node stood at a place, or was added there
abbrev pub StandsAt : List TypeNode → List TypeNode → TypeNode → ℕ → Type 0
StandsAt old new x place =
    ((new ≡ old) × (slice_get old place ≡ Some x)) ⊎ ((new ≡ old ++ x ∷ []) × (place ≡ length old))

pub record IsPlaced (old new : Flat) (x : TypeNode) (place : ℕ) : Type 0 where
  pub nodes : StandsAt old.nodes new.nodes x place
  pub places : new.places ≡ old.places

-- a node that may come next
pub record IsFlat (t : Table) (vs : List ℕ) (nodes : List TypeNode) (a : TyId) (x : TypeNode) : Type 0 where
  pub node : IsNodeAt (length nodes) x
  pub tree : node_tree (unfolded nodes) x ≡ closed_over vs (whole t a)

-- places at which parts stand
pub record AreFlatParts (t : Table) (vs : List ℕ) (nodes : List TypeNode) (parts : List TyId) (places : List ℕ) : Type 0 where
  pub below : AreBelow (length nodes) places
  pub trees : trees_at (unfolded nodes) places ≡ closed_all t vs parts

-- a node without parts
abbrev pub IsLeaf : TypeNode → Type 0
IsLeaf x = (n : ℕ) → IsNodeAt n x

-- the node of a variable, which is closed or not
abbrev pub IsVariable : List ℕ → ℕ → TypeNode → Type 0
IsVariable vs v x = (made : List Tree) → node_tree made x ≡ closed_over vs (Ty.Var v)
