-- The items of fields, and the nodes at places of a table.
use Rattle.std.specs.Prelude.{ℕ, ◌<◌, List, [], ◌∷◌, ◌++◌, length, map, get_or, Bool, true, false}
use Rattle.std.specs.List.{flat_map}
use Rattle.cm_bytes.specs.Fields.{u32_of}
use Rattle.node_bytes.specs.Nodes.{Node}
use Rattle.node_bytes.specs.Tables.{nowhere}
use Rattle.node_bytes.specs.declared.table.Item.{Item}
use Rattle.node_bytes.specs.declared.table.Item.TheVariants as item
use Rattle.semantic_objects.specs.declared.name.Owner.{Owner}
use Rattle.semantic_objects.specs.declared.name.Owner.TheVariants as owner
use Rattle.semantic_objects.specs.declared.name.TyName.{TyName}
use Rattle.semantic_objects.specs.Symbols.{same_text}
use Rattle.semantic_objects.specs.Tables.{Table}
use Rattle.interface_format.specs.Tags.{bool_byte, status_byte, ValueRow}
use Rattle.interface_nodes.specs.declared.fields.NamedPlace.{NamedPlace}
use Rattle.interface_nodes.specs.declared.fields.ValuePlace.{ValuePlace}

-- ---- items

abbrev pub byte_items : ℕ → List Item
byte_items b = item.Piece (b ∷ []) ∷ []

abbrev pub number_items : ℕ → List Item
number_items n = item.Piece (u32_of n) ∷ []

abbrev pub text_items : List ℕ → List Item
text_items text = item.Piece (u32_of (length text)) ∷ item.Piece text ∷ []

abbrev pub row_items : NamedPlace → List Item
row_items row = item.Piece (u32_of (length row.name)) ∷ item.Piece row.name ∷ item.Part row.place ∷ []

abbrev pub table_items : List NamedPlace → List Item
table_items rows = item.Piece (u32_of (length rows)) ∷ flat_map row_items rows

abbrev pub value_items : ValuePlace → List Item
value_items row = item.Piece (u32_of (length row.name)) ∷ item.Piece row.name
    ∷ item.Piece (status_byte row.status ∷ []) ∷ item.Part row.place ∷ []

abbrev pub values_items : List ValuePlace → List Item
values_items rows = item.Piece (u32_of (length rows)) ∷ flat_map value_items rows

abbrev pub part_items : ℕ → List Item
part_items place = item.Part place ∷ []

abbrev pub parts_items : List ℕ → List Item
parts_items places = item.Piece (u32_of (length places)) ∷ flat_map part_items places

abbrev pub unit_items : Bool → List ℕ → List Item
unit_items true u = byte_items 1
unit_items false u = item.Piece (2 ∷ []) ∷ text_items u

abbrev pub owner_items : List ℕ → Owner → List Item
owner_items home owner.Basis = byte_items 0
owner_items home (owner.«Unit» u) = unit_items (same_text home u) u
owner_items home owner.Bound = byte_items 3

abbrev pub type_name_items : List ℕ → TyName → List Item
type_name_items home name = owner_items home name.owner
    ++ item.Piece (u32_of name.number) ∷ item.Piece (u32_of name.arity) ∷ byte_items (bool_byte name.eq)

-- ---- nodes at places

abbrev pub node_at : List Node → ℕ → Node
node_at nodes place = get_or nodes place nowhere

abbrev pub nodes_at : List Node → List ℕ → List Node
nodes_at nodes places = map (node_at nodes) places

abbrev pub row_at : List Node → NamedPlace → List ℕ × Node
row_at nodes row = (row.name, node_at nodes row.place)

abbrev pub rows_at : List Node → List NamedPlace → Table Node
rows_at nodes rows = map (row_at nodes) rows

abbrev pub value_at : List Node → ValuePlace → ValueRow
value_at nodes row = record { name = row.name; status = row.status; scheme = node_at nodes row.place }

abbrev pub values_at : List Node → List ValuePlace → List ValueRow
values_at nodes rows = map (value_at nodes) rows

-- places of a table of so many nodes
abbrev pub AreBelow : ℕ → List ℕ → Type 0
AreBelow n [] = Unit {0}
AreBelow n (p ∷ ps) = (p < n) × AreBelow n ps

abbrev pub RowsAreBelow : ℕ → List NamedPlace → Type 0
RowsAreBelow n [] = Unit {0}
RowsAreBelow n (row ∷ rows) = (row.place < n) × RowsAreBelow n rows

abbrev pub ValuesAreBelow : ℕ → List ValuePlace → Type 0
ValuesAreBelow n [] = Unit {0}
ValuesAreBelow n (row ∷ rows) = (row.place < n) × ValuesAreBelow n rows
