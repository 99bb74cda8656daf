-- The places of a table at which the trees of nodes stand. Only private functions cite this file.
use Rattle.std.specs.Prelude.{◌≡◌, ℕ, List, length, map, slice_get, Some}
use Rattle.node_bytes.specs.Nodes.{Node}
use Rattle.semantic_objects.specs.Trees.{Tree}
use Rattle.interface_format.specs.Trees.{type_node}
use Rattle.interface_nodes.specs.declared.fields.NamedPlace.{NamedPlace}
use Rattle.interface_nodes.specs.Fields.{node_at, AreBelow}

-- these are the images at some places
abbrev pub ArePicked : List ℕ → List ℕ → List ℕ → Type 0
ArePicked images places picked = map (λ p. slice_get images p) places ≡ map Some picked

-- a label beside a place
abbrev pub pair_of : NamedPlace → List ℕ × ℕ
pair_of row = (row.name, row.place)

-- at these places stand these types, one by one
pub record AreImages (home : List ℕ) (nodes : List Node) (images : List ℕ) (trees : List Tree) : Type 0 where
  pub are : map (node_at nodes) images ≡ map (type_node home) trees
  pub below : AreBelow (length nodes) images
