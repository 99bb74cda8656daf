-- Which row is a unit, and where it stands in a graph. The rows are those of a table whose nodes are `made`.
use Rattle.std.specs.Prelude.{◌≡◌, ℕ, ◌⊎◌, List, [], map, Option, Some, None}
use Rattle.node_bytes.specs.Nodes.{Node}
use Rattle.node_bytes.specs.Tables.{row_node}
use Rattle.node_bytes.specs.declared.table.Row.{Row}
use Rattle.semantic_objects.specs.Tables.{Table}
use Rattle.semantic_objects.specs.Environments.{Top, env_of}
use Rattle.interface_format.specs.Tags.{unit_node}
use Rattle.interface_format.specs.Trees.{top_node}
use Rattle.interface_format.specs.Rules.{AreNames, HasTables}
use Rattle.interface_nodes.specs.declared.fields.NamedPlace.{NamedPlace}
use Rattle.interface_nodes.specs.Fields.{rows_at}
use Rattle.sml_modules.specs.Items.{Item, at, as_env, as_signature, as_functor, as_top, IsEnv, IsSignature, IsFunctor, IsTop, map_rows}
use Rattle.sml_modules.specs.Nodes.{AreAll}
use Rattle.row_types.specs.Told.{name_of}
use Rattle.row_forms.specs.declared.modules.UnitForm.{UnitForm}
use Rattle.row_forms.specs.Forms.{FitsUnit, unit_at}
use Rattle.row_environments.specs.Placed.{PlaceOrNone}
use Rattle.row_environments.specs.Answers.{RowsPlaced, LacksPlace, places_in}
use Rattle.row_binders.specs.declared.rows.BinderRows.{BinderRows}
use Rattle.row_binders.specs.Binders.{AreBound}
use Rattle.interface_restoring.specs.declared.tops.UnitTables.{UnitTables}

-- a node is that of this top, whose tables meet the rules
pub record IsTopOf (home : List ℕ) (x : Node) (top : Top) : Type 0 where
  pub node : x ≡ top_node home top
  pub tables : HasTables top

-- ---- tables

-- the rows of a table by their places, under names as the rules ask
pub record TableIs (told : List (Option ℕ)) (table : List NamedPlace) (rows : Table ℕ) : Type 0 where
  pub named : AreNames (map name_of table)
  pub placed : RowsPlaced told table rows

-- its names aren't so, or a row is none
abbrev pub LacksTable : List (Option ℕ) → List NamedPlace → Type 0
LacksTable told table = (AreNames (map name_of table) → ⊥) ⊎ LacksPlace told (places_in table)

abbrev pub FindsTable : List (Option ℕ) → List NamedPlace → Option (Table ℕ) → Type 0
FindsTable told table (Some rows) = TableIs told table rows
FindsTable told table None = LacksTable told table

-- the tables of a unit by places
pub record UnitPlaced (rows : BinderRows) (form : UnitForm) (tables : UnitTables) : Type 0 where
  pub structures : TableIs rows.envs.told.envs form.structures tables.structures
  pub signatures : TableIs rows.signatures form.signatures tables.signatures
  pub functors : TableIs rows.functors form.functors tables.functors
  pub funsigs : TableIs rows.functors form.funsigs tables.funsigs

-- the node of the unit that has these fields
abbrev pub node_of_unit : List Node → UnitForm → Node
node_of_unit made form = unit_node (rows_at made form.structures) (rows_at made form.signatures)
    (rows_at made form.functors) (rows_at made form.funsigs)

-- it is that of no unit that meets the rules
abbrev pub LacksUnit : BinderRows → UnitForm → Type 0
LacksUnit rows form = (home : List ℕ) (items : List Item) (made : List Node) → AreBound home items made rows
    → FitsUnit (unit_at made form) → (top : Top) → IsTopOf home (node_of_unit made form) top → ⊥

abbrev pub FindsUnit : BinderRows → UnitForm → Option UnitTables → Type 0
FindsUnit rows form (Some tables) = UnitPlaced rows form tables
FindsUnit rows form None = LacksUnit rows form

-- ---- the unit in a graph

-- its parts stand in the graph
pub record AreUnitTables (items : List Item) (tables : UnitTables) : Type 0 where
  pub structures : AreAll IsEnv items tables.structures
  pub signatures : AreAll IsSignature items tables.signatures
  pub functors : AreAll IsFunctor items tables.functors
  pub funsigs : AreAll IsFunctor items tables.funsigs

abbrev pub unit_of : List Item → UnitTables → Top
unit_of items tables = record {
  env = env_of (map_rows (λ p. as_env (at items p)) tables.structures) [] [];
  signatures = map_rows (λ p. as_signature (at items p)) tables.signatures;
  functors = map_rows (λ p. as_functor (at items p)) tables.functors;
  funsigs = map_rows (λ p. as_functor (at items p)) tables.funsigs;
}

abbrev pub unit_item : List Item → UnitTables → Item
unit_item items tables = Item.TopItem (unit_of items tables)

-- where the unit stands that has these fields. The rows are told of a graph with the first items
abbrev pub FormsTop : BinderRows → List Item → UnitForm → List Item → Option ℕ → Type 0
FormsTop rows old form items found = (home : List ℕ) (made : List Node) → AreBound home old made rows
    → FitsUnit (unit_at made form) → PlaceOrNone IsTop as_top (IsTopOf home (node_of_unit made form)) items found

-- where the unit stands that a row is
abbrev pub PlacesTop : BinderRows → List Item → Row → List Item → Option ℕ → Type 0
PlacesTop rows old row items found = (home : List ℕ) (made : List Node) → AreBound home old made rows
    → PlaceOrNone IsTop as_top (IsTopOf home (row_node made row)) items found
