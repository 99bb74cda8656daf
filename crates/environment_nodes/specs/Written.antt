-- The nodes that are written for what stands in a graph, in the interface of a unit `home`. Only private functions cite
-- what stands below `item_node`.
use Rattle.std.specs.Prelude.{◌≡◌, ℕ, ◌<◌, List, ◌++◌, map, nat_eq, Option, Some}
use Rattle.indexmap.specs.IndexMap.{get}
use Rattle.node_bytes.specs.Nodes.{Node}
use Rattle.node_tables.specs.Tables.{Adds}
use Rattle.semantic_objects.specs.declared.entry.VidStatus.{VidStatus}
use Rattle.semantic_objects.specs.Tables.{Table}
use Rattle.sml_modules.specs.Items.{Item, at, as_value}
use Rattle.interface_format.specs.Trees.{no_node, node_of_type, node_of_scheme, env_node, node_of_signature, node_of_functor, top_node}
use Rattle.interface_nodes.specs.declared.fields.NamedPlace.{NamedPlace}
use Rattle.interface_nodes.specs.declared.fields.ValuePlace.{ValuePlace}
use Rattle.interface_nodes.specs.Fields.{node_at}
use Rattle.environment_nodes.specs.declared.places.NodePlaces.{NodePlaces}

-- the node of an item: of a value that of its scheme
abbrev pub item_node : List ℕ → Item → Node
item_node home Item.Nowhere = no_node
item_node home (Item.TypeItem str) = node_of_type home str
item_node home (Item.ValueItem value) = node_of_scheme home value.scheme
item_node home (Item.EnvItem env) = env_node home env
item_node home (Item.SignatureItem sig) = node_of_signature home sig
item_node home (Item.FunctorItem fun) = node_of_functor home fun
item_node home (Item.TopItem top) = top_node home top

-- the place of the node of a place
abbrev pub place_in : NodePlaces → ℕ → Option ℕ
place_in places p = get nat_eq places.places p

-- all nodes of places stand in a table of so many nodes
pub record AreWithin (count : ℕ) (places : NodePlaces) : Type 0 where
  pub below : (p q : ℕ) → place_in places p ≡ Some q → q < count

-- each of them is the node of what stands at its place
pub record AreWritten (home : List ℕ) (items : List Item) (nodes : List Node) (places : NodePlaces) : Type 0 where
  pub each : (p q : ℕ) → place_in places p ≡ Some q → node_at nodes q ≡ item_node home (at items p)

-- nodes were added
pub record Grows (old new : List Node) : Type 0 where
  pub more : List Node
  pub grown : new ≡ old ++ more

-- a node was added, over nodes that are written, in the interface of whatever unit they are written in
abbrev pub AddsOver : List Item → NodePlaces → List Node → List Node → (List ℕ → Node) → ℕ → Type 0
AddsOver items places old new node place =
    (home : List ℕ) → AreWritten home items old places → Adds old new (node home) place

-- a row with the place of the node of its place
abbrev pub row_asked : NodePlaces → List ℕ × ℕ → List ℕ × Option ℕ
row_asked places row = (row.0, place_in places row.1)

abbrev pub row_answered : NamedPlace → List ℕ × Option ℕ
row_answered row = (row.name, Some row.place)

-- rows of a table of nodes for rows of a graph
abbrev pub ArePlaced : NodePlaces → Table ℕ → List NamedPlace → Type 0
ArePlaced places rows made = map (row_asked places) rows ≡ map row_answered made

-- the same for values, with the status of each
abbrev pub value_asked : List Item → NodePlaces → List ℕ × ℕ → List ℕ × (VidStatus × Option ℕ)
value_asked items places row = (row.0, ((as_value (at items row.1)).status, place_in places row.1))

abbrev pub value_answered : ValuePlace → List ℕ × (VidStatus × Option ℕ)
value_answered row = (row.name, (row.status, Some row.place))

abbrev pub ValuesArePlaced : List Item → NodePlaces → Table ℕ → List ValuePlace → Type 0
ValuesArePlaced items places rows made = map (value_asked items places) rows ≡ map value_answered made
