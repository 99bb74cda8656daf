-- A table of nodes, as contracts see it, and what a call adds to it.
use Rattle.std.specs.Prelude.{◌≡◌, ℕ, ◌<◌, List, ◌++◌, length, get_or, slice_get, Some}
use Rattle.node_bytes.specs.Nodes.{Node}
use Rattle.node_bytes.specs.Tables.{nowhere}
use Rattle.node_bytes.specs.declared.table.Item.{Item}
use Rattle.node_bytes.specs.declared.table.Item.TheVariants as item

-- the parts among these items are places of so many nodes
pub record HasParts (count : ℕ) (items : List Item) : Type 0 where
  pub below : (k part : ℕ) → slice_get items k ≡ Some (item.Part part) → part < count

-- the table has this node at a place. All nodes that it had stay at their places
pub record Adds (old new : List Node) (x : Node) (place : ℕ) : Type 0 where
  pub more : List Node
  pub grown : new ≡ old ++ more
  pub within : place < length new
  pub is : get_or new place nowhere ≡ x
