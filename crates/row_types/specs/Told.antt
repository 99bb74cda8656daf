-- Which rows are types, and which ones. The rows are those of a table whose nodes are `made`.
use Rattle.std.specs.Prelude.{◌≡◌, ◌≢◌, ℕ, ◌<◌, List, [], ◌∷◌, ◌++◌, length, get_or, Bool, true, false, Option, Some, None}
use Rattle.node_bytes.specs.Nodes.{Node}
use Rattle.node_bytes.specs.Tables.{content_of, row_node}
use Rattle.node_bytes.specs.declared.table.Item.{Item}
use Rattle.node_bytes.specs.declared.table.Row.{Row}
use Rattle.semantic_objects.specs.declared.name.TyName.{TyName}
use Rattle.semantic_objects.specs.declared.node.TypeNode.{TypeNode}
use Rattle.semantic_objects.specs.Trees.{Tree, trees_of}
use Rattle.semantic_objects.specs.Nodes.{node_tree, trees_at, unfolded, tree_at, IsNodeAt, AreBelow, AreNodes}
use Rattle.interface_format.specs.Tags.{record_node, arrow_node, named_node}
use Rattle.interface_format.specs.Trees.{type_node, type_nodes}
use Rattle.interface_format.specs.Rules.{IsNumber, IsTypeName, IsType, AreTypes}
use Rattle.interface_nodes.specs.declared.fields.NamedPlace.{NamedPlace}
use Rattle.interface_nodes.specs.Fields.{node_at, nodes_at, rows_at}
use Rattle.row_fields.specs.Listing.{HasName, AreItems}
use Rattle.row_types.specs.declared.rows.TypeRows.{TypeRows}

-- ---- types

-- the largest count that a binder of variables can have
abbrev pub most : ℕ
most = 4294967295

-- a node is that of this type, which meets the rules below some binder
pub record IsTypeOf (home : List ℕ) (x : Node) (t : Tree) : Type 0 where
  pub node : x ≡ type_node home t
  pub is : IsType most t

-- it is that of no type that meets the rules, however many variables there are
pub record NoType (home : List ℕ) (x : Node) : Type 0 where
  pub never : (m : ℕ) (t : Tree) → IsNumber m → IsType m t → x ≢ type_node home t

-- ---- rows

abbrev pub Told : List ℕ → Node → Tree → Bool → Type 0
Told home x t true = IsTypeOf home x t
Told home x t false = NoType home x

-- each row is told
pub record AreTold (home : List ℕ) (made : List Node) (rows : TypeRows) : Type 0 where
  pub ordered : AreNodes rows.nodes
  pub nodes_counted : length rows.nodes ≡ length made
  pub told_counted : length rows.told ≡ length made
  pub each : (p : ℕ) → p < length made → Told home (node_at made p) (tree_at rows.nodes p) (get_or rows.told p false)

-- what is told of the row at a place
pub record Stands (rows : TypeRows) (place : ℕ) (is : Bool) : Type 0 where
  pub within : place < length rows.told
  pub told : get_or rows.told place false ≡ is

-- the rows at some places are types
pub record PartsAre (home : List ℕ) (made : List Node) (nodes : List TypeNode) (places : List ℕ) : Type 0 where
  pub below : AreBelow (length nodes) places
  pub are : type_nodes home (trees_of (trees_at (unfolded nodes) places)) ≡ nodes_at made places
  pub types : AreTypes most (trees_of (trees_at (unfolded nodes) places))

-- one of them is none
pub record LacksType (home : List ℕ) (made : List Node) (places : List ℕ) : Type 0 where
  pub at : ℕ
  pub within : at < length places
  pub none : NoType home (node_at made (get_or places at 0))

abbrev pub PartsAreOrLack : List ℕ → List Node → TypeRows → List ℕ → Bool → Type 0
PartsAreOrLack home made rows places true = PartsAre home made rows.nodes places
PartsAreOrLack home made rows places false = LacksType home made places

abbrev pub AllOrLacks : TypeRows → List ℕ → Bool → Type 0
AllOrLacks rows places all = (home : List ℕ) (made : List Node) → AreTold home made rows
    → PartsAreOrLack home made rows places all

-- ---- symbols over rows

-- a node over the rows for this one, or it is no type
abbrev pub MakesOf : List ℕ → List TypeNode → Node → Option TypeNode → Type 0
MakesOf home nodes x (Some node) = IsNodeAt (length nodes) node × IsTypeOf home x (node_tree (unfolded nodes) node)
MakesOf home nodes x None = NoType home x

abbrev pub Makes : List ℕ → ℕ → List Item → TypeRows → Option TypeNode → Type 0
Makes home tag items rows found = (made : List Node) → AreTold home made rows
    → MakesOf home rows.nodes (Node.node tag (content_of made items)) found

abbrev pub name_of : NamedPlace → List ℕ
name_of row = row.name

abbrev pub place_of : NamedPlace → ℕ
place_of row = row.place

abbrev pub MakesRecord : List ℕ → List NamedPlace → TypeRows → Option TypeNode → Type 0
MakesRecord home table rows found = (made : List Node) → AreTold home made rows
    → AreItems HasName (rows_at made table) → MakesOf home rows.nodes (record_node (rows_at made table)) found

abbrev pub MakesArrow : List ℕ → ℕ → ℕ → TypeRows → Option TypeNode → Type 0
MakesArrow home from to rows found = (made : List Node) → AreTold home made rows
    → MakesOf home rows.nodes (arrow_node (node_at made from ∷ node_at made to ∷ [])) found

abbrev pub MakesNamed : List ℕ → TyName → List ℕ → TypeRows → Option TypeNode → Type 0
MakesNamed home name args rows found = (made : List Node) → AreTold home made rows → IsTypeName name
    → IsNumber (length args) → MakesOf home rows.nodes (named_node home name (nodes_at made args)) found

-- ---- one row more

abbrev pub TellsRow : List ℕ → TypeRows → Row → TypeRows → Bool → Type 0
TellsRow home old row new is = (made : List Node) → AreTold home made old
    → AreTold home (made ++ row_node made row ∷ []) new
