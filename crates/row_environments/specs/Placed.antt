-- Which rows are type structures and environments, and where these stand in a graph. The rows are
-- those of a table whose nodes are `made`.
use Rattle.std.specs.Prelude.{◌≡◌, ◌≢◌, ℕ, ◌<◌, List, [], ◌∷◌, length, get_or, nat_eq, Option, Some, None, cond}
use Rattle.node_bytes.specs.Nodes.{Node}
use Rattle.semantic_objects.specs.declared.entry.ValueEntry.{ValueEntry}
use Rattle.semantic_objects.specs.declared.entry.VidStatus.{VidStatus}
use Rattle.semantic_objects.specs.declared.entry.VidStatus.TheVariants as status
use Rattle.semantic_objects.specs.Environments.{Env, structures, types, values}
use Rattle.semantic_objects.specs.Tables.{Table, names_of}
use Rattle.semantic_objects.specs.Trees.{TypeScheme}
use Rattle.interface_format.specs.Tags.{ValueRow}
use Rattle.interface_format.specs.Trees.{env_node}
use Rattle.interface_format.specs.Rules.{AreNames}
use Rattle.interface_format.specs.Rules as rules
use Rattle.interface_nodes.specs.Fields.{node_at}
use Rattle.environment_walks.specs.declared.places.Images.{Images}
use Rattle.environment_walks.specs.Changing.{image_in}
use Rattle.sml_modules.specs.Items.{Item, at, as_type, as_env, IsType, IsEnv}
use Rattle.row_entries.specs.Told.{IsSchemeOf, IsStructureOf, RowsAre, AreEntries, ToldAt}
use Rattle.row_environments.specs.declared.rows.ToldRows.{ToldRows}
use Rattle.row_environments.specs.declared.values.ValuePlaces.{ValuePlaces}

-- ---- what a node is

pub record IsEnvOf (home : List ℕ) (x : Node) (env : Env) : Type 0 where
  pub node : x ≡ env_node home env
  pub rules : rules.IsEnv env

-- a row of values is this value: it has its name and its status, and its scheme is that of the value
pub record IsValueOf (home : List ℕ) (row : ValueRow) (x : List ℕ × ValueEntry) : Type 0 where
  pub name : row.name ≡ x.0
  pub status : row.status ≡ x.1.status
  pub scheme : IsSchemeOf home row.scheme x.1.scheme

-- .. and so are all of them, one by one
abbrev pub ValuesAre : List ℕ → List ValueRow → Table ValueEntry → Type 0
ValuesAre home [] [] = Unit {0}
ValuesAre home [] (x ∷ xs) = ⊥
ValuesAre home (row ∷ rows) [] = ⊥
ValuesAre home (row ∷ rows) (x ∷ xs) = IsValueOf home row x × ValuesAre home rows xs

-- the tables of an environment that these lists are
pub record AreLists (home : List ℕ) (ss ts : Table Node) (vs : List ValueRow) (env : Env) : Type 0 where
  pub structures_are : RowsAre (IsEnvOf home) ss (structures env)
  pub types_are : RowsAre (IsStructureOf home) ts (types env)
  pub values_are : ValuesAre home vs (values env)
  pub structure_names : AreNames (names_of (structures env))
  pub type_names : AreNames (names_of (types env))
  pub value_names : AreNames (names_of (values env))

-- ---- places of a graph

-- at a place stands something of a kind, of which this holds
pub record StandsFor {A : Type 0} (Kind : Item → Type 0) (read : Item → A) (Is : A → Type 0) (items : List Item) (p : ℕ)
    : Type 0 where
  pub kind : Kind (at items p)
  pub is : Is (read (at items p))

-- .. or there is nothing of which it holds
abbrev pub PlaceOrNone : {A : Type 0} → (Item → Type 0) → (Item → A) → (A → Type 0) → List Item → Option ℕ → Type 0
PlaceOrNone Kind read Is items (Some p) = StandsFor Kind read Is items p
PlaceOrNone {A} Kind read Is items None = (x : A) → Is x → ⊥

-- of each row it is told where it stands
pub record AreAllPlaced {A : Type 0} (Kind : Item → Type 0) (read : Item → A) (Is : Node → A → Type 0) (items : List Item)
    (made : List Node) (told : List (Option ℕ)) : Type 0 where
  pub counted : length told ≡ length made
  pub each : (p : ℕ) → p < length made → PlaceOrNone Kind read (Is (node_at made p)) items (get_or told p None)

-- ---- values

abbrev pub images_for : ValuePlaces → VidStatus → Images
images_for places status.Variable = places.variables
images_for places status.Constructor = places.constructors
images_for places status.Exception = places.exceptions

-- a row is a scheme, and at this place stands the value of that scheme and this status
pub record HasValue (schemes : List (Option TypeScheme)) (items : List Item) (s : VidStatus) (row p : ℕ) : Type 0 where
  pub scheme : TypeScheme
  pub told : ToldAt schemes row (Some scheme)
  pub is : at items p ≡ Item.ValueItem (record { status = s; scheme = scheme })

-- .. wherever a row has a place
pub record AreValues (schemes : List (Option TypeScheme)) (items : List Item) (places : ValuePlaces) : Type 0 where
  pub each : (s : VidStatus) (row p : ℕ) → image_in (images_for places s) row ≡ Some p
      → HasValue schemes items s row p

-- a row has a place of a status, and all others have theirs
pub record SetsValue (old new : ValuePlaces) (s : VidStatus) (row p : ℕ) : Type 0 where
  pub there : (q : ℕ) → image_in (images_for new s) q ≡ cond (nat_eq row q) (Some p) (image_in (images_for old s) q)
  pub others : (r : VidStatus) → r ≢ s → images_for new r ≡ images_for old r

-- ---- all rows

-- of each row it is told what it is, and where it stands
pub record ArePlaced (home : List ℕ) (items : List Item) (made : List Node) (told : ToldRows) : Type 0 where
  pub entries : AreEntries home made told.entries
  pub types : AreAllPlaced IsType as_type (IsStructureOf home) items made told.types
  pub envs : AreAllPlaced IsEnv as_env (IsEnvOf home) items made told.envs

-- .. of the rows of some table, and values of them have places
pub record HavePlaces (home : List ℕ) (items : List Item) (told : ToldRows) (places : ValuePlaces) : Type 0 where
  pub made : List Node
  pub placed : ArePlaced home items made told
  pub values : AreValues told.entries.schemes items places
