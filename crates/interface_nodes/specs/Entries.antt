-- Rows of a table of nodes: what a call adds.
use Rattle.std.specs.Prelude.{◌≡◌, ◌<◌, List, ◌++◌, length}
use Rattle.node_bytes.specs.Nodes.{Node}
use Rattle.semantic_objects.specs.Tables.{Table}
use Rattle.interface_format.specs.Tags.{ValueRow}
use Rattle.interface_nodes.specs.declared.fields.NamedPlace.{NamedPlace}
use Rattle.interface_nodes.specs.declared.fields.ValuePlace.{ValuePlace}
use Rattle.interface_nodes.specs.Fields.{rows_at, value_at, RowsAreBelow}

-- at the places of these rows stand these nodes. All nodes that the table had stay at their places
pub record AddsRows (old new : List Node) (nodes : Table Node) (rows : List NamedPlace) : Type 0 where
  pub more : List Node
  pub grown : new ≡ old ++ more
  pub within : RowsAreBelow (length new) rows
  pub are : rows_at new rows ≡ nodes

-- the row of a value, whose scheme stands at its place. All nodes that the table had stay at their places
pub record AddsValue (old new : List Node) (value : ValueRow) (row : ValuePlace) : Type 0 where
  pub more : List Node
  pub grown : new ≡ old ++ more
  pub within : row.place < length new
  pub is : value_at new row ≡ value
