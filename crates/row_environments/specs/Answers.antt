-- What calls answer that make rows of a graph.
use Rattle.std.specs.Prelude.{◌≡◌, ℕ, ◌<◌, ◌⊎◌, List, [], ◌∷◌, ◌++◌, length, map, get_or, Option, Some, None}
use Rattle.node_bytes.specs.Nodes.{Node}
use Rattle.node_bytes.specs.Tables.{row_node}
use Rattle.node_bytes.specs.declared.table.Row.{Row}
use Rattle.semantic_objects.specs.Tables.{Table}
use Rattle.env_parts.specs.declared.tables.EnvTables.{EnvTables}
use Rattle.interface_format.specs.Tags.{environment_node}
use Rattle.interface_format.specs.Rules.{AreNames}
use Rattle.interface_nodes.specs.declared.fields.NamedPlace.{NamedPlace}
use Rattle.interface_nodes.specs.declared.fields.ValuePlace.{ValuePlace}
use Rattle.interface_nodes.specs.Fields.{rows_at, values_at}
use Rattle.sml_modules.specs.Items.{Item, as_type, as_env, IsType, IsEnv}
use Rattle.row_types.specs.Told.{name_of}
use Rattle.row_forms.specs.declared.modules.EnvForm.{EnvForm}
use Rattle.row_forms.specs.Forms.{FitsEnv, env_at}
use Rattle.row_entries.specs.declared.rows.EntryRows.{EntryRows}
use Rattle.row_entries.specs.Told.{IsStructureOf, AreEntries, ToldAt}
use Rattle.row_environments.specs.declared.rows.ToldRows.{ToldRows}
use Rattle.row_environments.specs.Placed.{IsEnvOf, PlaceOrNone, ArePlaced, HasValue}

-- rows by the places that are told of them, one by one
abbrev pub RowsPlaced : List (Option ℕ) → List NamedPlace → Table ℕ → Type 0
RowsPlaced told [] [] = Unit {0}
RowsPlaced told [] (x ∷ xs) = ⊥
RowsPlaced told (row ∷ rows) [] = ⊥
RowsPlaced told (row ∷ rows) (x ∷ xs) =
    (row.name ≡ x.0) × ToldAt told row.place (Some x.1) × RowsPlaced told rows xs

-- a row at one of some places is none
pub record LacksPlace {A : Type 0} (told : List (Option A)) (places : List ℕ) : Type 0 where
  pub at : ℕ
  pub within : at < length places
  pub none : ToldAt told (get_or places at 0) None

abbrev pub places_in : List NamedPlace → List ℕ
places_in [] = []
places_in (row ∷ rows) = row.place ∷ places_in rows

abbrev pub PlacesRows : List (Option ℕ) → List NamedPlace → Option (Table ℕ) → Type 0
PlacesRows told table (Some rows) = RowsPlaced told table rows
PlacesRows told table None = LacksPlace told (places_in table)

-- values by the places at which they stand, one by one
abbrev pub ValuesPlaced : EntryRows → List Item → List ValuePlace → Table ℕ → Type 0
ValuesPlaced entries items [] [] = Unit {0}
ValuesPlaced entries items [] (x ∷ xs) = ⊥
ValuesPlaced entries items (row ∷ rows) [] = ⊥
ValuesPlaced entries items (row ∷ rows) (x ∷ xs) =
    (row.name ≡ x.0) × HasValue entries.schemes items row.status row.place x.1 × ValuesPlaced entries items rows xs

abbrev pub value_name_of : ValuePlace → List ℕ
value_name_of row = row.name

abbrev pub value_names_of : List ValuePlace → List (List ℕ)
value_names_of rows = map value_name_of rows

abbrev pub value_places_in : List ValuePlace → List ℕ
value_places_in [] = []
value_places_in (row ∷ rows) = row.place ∷ value_places_in rows

abbrev pub PlacesValues : EntryRows → List Item → List ValuePlace → Option (Table ℕ) → Type 0
PlacesValues entries items table (Some rows) = ValuesPlaced entries items table rows
PlacesValues entries items table None = LacksPlace entries.schemes (value_places_in table)

-- the value of one row
abbrev pub PlacesValue : EntryRows → List Item → ValuePlace → Option ℕ → Type 0
PlacesValue entries items row (Some p) = HasValue entries.schemes items row.status row.place p
PlacesValue entries items row None = ToldAt entries.schemes row.place None

-- ---- environments

-- the names of the tables of an environment are as the rules ask
pub record AreNamed (form : EnvForm) : Type 0 where
  pub structures : AreNames (map name_of form.structures)
  pub types : AreNames (map name_of form.types)
  pub values : AreNames (value_names_of form.values)

-- the tables of an environment by places
pub record TablesPlaced (told : ToldRows) (items : List Item) (form : EnvForm) (tables : EnvTables) : Type 0 where
  pub structures : RowsPlaced told.envs form.structures tables.structures
  pub types : RowsPlaced told.types form.types tables.types
  pub values : ValuesPlaced told.entries items form.values tables.values

-- a structure, a type or a value of them is none
abbrev pub LacksRow : ToldRows → EnvForm → Type 0
LacksRow told form = LacksPlace told.envs (places_in form.structures)
    ⊎ (LacksPlace told.types (places_in form.types) ⊎ LacksPlace told.entries.schemes (value_places_in form.values))

abbrev pub FindsTables : ToldRows → List Item → EnvForm → Option EnvTables → Type 0
FindsTables told items form (Some tables) = TablesPlaced told items form tables
FindsTables told items form None = LacksRow told form

-- the node of the environment that has these fields
abbrev pub node_of_form : List Node → EnvForm → Node
node_of_form made form =
    environment_node (rows_at made form.structures) (rows_at made form.types) (values_at made form.values)

-- where it stands. The rows are told of a graph with the first items
abbrev pub FindsEnv : ToldRows → List Item → EnvForm → List Item → Option ℕ → Type 0
FindsEnv told old form items found = (home : List ℕ) (made : List Node) → ArePlaced home old made told
    → FitsEnv (env_at made form) → PlaceOrNone IsEnv as_env (IsEnvOf home (node_of_form made form)) items found

-- ---- rows

-- where a row stands, in a graph with these items
abbrev pub PlacesType : EntryRows → Row → List Item → Option ℕ → Type 0
PlacesType entries row items found = (home : List ℕ) (made : List Node) → AreEntries home made entries
    → PlaceOrNone IsType as_type (IsStructureOf home (row_node made row)) items found

abbrev pub PlacesEnv : ToldRows → List Item → Row → List Item → Option ℕ → Type 0
PlacesEnv told old row items found = (home : List ℕ) (made : List Node) → ArePlaced home old made told
    → PlaceOrNone IsEnv as_env (IsEnvOf home (row_node made row)) items found

-- one row more is placed
abbrev pub PlacesRow : List ℕ → List Item → List Item → ToldRows → Row → ToldRows → Type 0
PlacesRow home before after old row new = (made : List Node) → ArePlaced home before made old
    → ArePlaced home after (made ++ row_node made row ∷ []) new
