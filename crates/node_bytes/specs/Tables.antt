-- Tables of nodes: which node stands at each place.
use Rattle.std.specs.Prelude.{◌≡◌, ℕ, ◌<◌, ◌≤◌, List, [], ◌∷◌, ◌++◌, length, get_or, slice_get, Some, Result, Ok, Err}
use Rattle.node_bytes.specs.Nodes.{Node, Content}
use Rattle.node_bytes.specs.declared.table.Item.{Item}
use Rattle.node_bytes.specs.declared.table.Item.TheVariants as item
use Rattle.node_bytes.specs.declared.table.Row.{Row}
use Rattle.node_bytes.specs.declared.fault.WriteFault.{WriteFault}
use Rattle.node_bytes.specs.declared.fault.WriteFault.TheVariants as fault

-- the node of a place at which none stands; no definition rests on it
abbrev pub nowhere : Node
nowhere = Node.node 0 Content.nothing

-- what items are, where these nodes stand at the places of parts
abbrev pub content_of : List Node → List Item → Content
content_of made [] = Content.nothing
content_of made (item.Piece text ∷ items) = Content.piece text (content_of made items)
content_of made (item.Part p ∷ items) = Content.part (get_or made p nowhere) (content_of made items)

-- the node of a row
abbrev pub row_node : List Node → Row → Node
row_node made row = Node.node row.tag (content_of made row.items)

-- the nodes of rows in their order, after those that were made before
abbrev pub nodes_after : List Node → List Row → List Node
nodes_after made [] = made
nodes_after made (row ∷ rows) = nodes_after (made ++ row_node made row ∷ []) rows

-- the nodes of a table
abbrev pub table_nodes : List Row → List Node
table_nodes rows = nodes_after [] rows

-- the node at a place
abbrev pub table_node : List Row → ℕ → Node
table_node rows p = get_or (table_nodes rows) p nowhere

-- each part stands before the node that it is a part of
pub record AreRows (rows : List Row) : Type 0 where
  pub before : (p : ℕ) (row : Row) (k part : ℕ) → slice_get rows p ≡ Some row
      → slice_get row.items k ≡ Some (item.Part part) → part < p

-- no node stands at two places
pub record AreApart (rows : List Row) : Type 0 where
  pub apart : (p q : ℕ) → p < length rows → q < length rows → table_node rows p ≡ table_node rows q → p ≡ q

-- the spelling is written, or passes the limit; want of memory is free
abbrev pub Writes : ℕ → List ℕ → Result (List ℕ) WriteFault → Type 0
Writes limit spelling (Ok text) = (text ≡ spelling) × (length spelling ≤ limit)
Writes limit spelling (Err fault.TooLong) = limit < length spelling
Writes limit spelling (Err fault.NoMemory) = Unit {0}
