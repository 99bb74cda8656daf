-- What becomes of the nodes of a graph, where type functions and schemes become others. Only private functions cite this
-- file.
use Rattle.std.specs.Prelude.{◌≡◌, ℕ, List, [], ◌∷◌, map, nat_eq, Option, Some, None}
use Rattle.indexmap.specs.IndexMap.{get}
use Rattle.semantic_objects.specs.Tables.{Table}
use Rattle.semantic_objects.specs.Environments.{Env}
use Rattle.env_parts.specs.Types.{facts_of, types_in}
use Rattle.env_parts.specs.declared.facts.Facts.{Facts}
use Rattle.env_parts.specs.declared.tables.EnvTables.{EnvTables}
use Rattle.sml_modules.specs.declared.node.Node.{Node}
use Rattle.sml_modules.specs.Items.{Item, at}
use Rattle.sml_modules.specs.Nodes.{node_item, IsNodeAfter, env_of_tables, AreEnvTables}
use Rattle.sml_modules.specs.declared.id.EnvId.{EnvId}
use Rattle.sml_modules.specs.Graphs.{Graph, env_at, HasEnv}
use Rattle.realisation.specs.Environments.{Change, changed_type, changed_value, changed}
use Rattle.environment_walks.specs.declared.places.Images.{Images}

-- the image of a place
abbrev pub image_in : Images → ℕ → Option ℕ
image_in images p = get nat_eq images.places p

-- an item is what another one becomes
abbrev pub IsChanged : Change → Item → Item → Type 0
IsChanged by Item.Nowhere y = ⊥
IsChanged by (Item.TypeItem x) y = y ≡ Item.TypeItem (changed_type by x)
IsChanged by (Item.ValueItem x) y = y ≡ Item.ValueItem (changed_value by x)
IsChanged by (Item.EnvItem x) y = y ≡ Item.EnvItem (changed by x)
IsChanged by (Item.SignatureItem x) y = ⊥
IsChanged by (Item.FunctorItem x) y = ⊥
IsChanged by (Item.TopItem x) y = ⊥

-- at each image stands what becomes of what stands at its place
pub record AreChanged (by : Change) (items : List Item) (images : Images) : Type 0 where
  pub each : (p q : ℕ) → image_in images p ≡ Some q → IsChanged by (at items p) (at items q)

-- a row with the image of its place, and one whose place is an image
abbrev pub asked : Images → List ℕ × ℕ → List ℕ × Option ℕ
asked images row = (row.0, image_in images row.1)

abbrev pub answered : List ℕ × ℕ → List ℕ × Option ℕ
answered row = (row.0, Some row.1)

-- rows with images in place of places
abbrev pub AreMapped : Images → Table ℕ → Table ℕ → Type 0
AreMapped images rows made = map (asked images) rows ≡ map answered made

-- each of some places is its own image
abbrev pub AllStay : Images → List ℕ → Type 0
AllStay images [] = Unit {0}
AllStay images (p ∷ ps) = (image_in images p ≡ Some p) × AllStay images ps

-- a node for what becomes of an item, and none where it stays
abbrev pub MakesOf : Change → Item → Option Node → Type 0
MakesOf by item None = IsChanged by item item
MakesOf by item (Some node) = (items : List Item) → IsNodeAfter items node × IsChanged by item (node_item items node)

-- a node for what becomes of what stands at a place, and none where it stays
abbrev pub MakesNode : Change → List Item → ℕ → Option Node → Type 0
MakesNode by items place None = IsChanged by (at items place) (at items place)
MakesNode by items place (Some node) = IsNodeAfter items node × IsChanged by (at items place) (node_item items node)

-- .. and the tables of an environment
abbrev pub MakesTables : Change → List Item → ℕ → Option EnvTables → Type 0
MakesTables by items place None = IsChanged by (at items place) (at items place)
MakesTables by items place (Some tables) =
    AreEnvTables items tables × IsChanged by (at items place) (Item.EnvItem (env_of_tables items tables))

-- each environment of which these are the facts stays
abbrev pub KeepsAllWith : Change → Facts → Type 0
KeepsAllWith by facts = (env : Env) → facts_of (types_in env) ≡ facts → changed by env ≡ env

-- an id stands for what an environment of an older graph becomes
pub record IsChangedEnv (by : Change) (old : Graph) (env : EnvId) (new : Graph) (made : EnvId) : Type 0 where
  pub there : HasEnv new made
  pub stands : env_at new made ≡ changed by (env_at old env)
