-- Nodes that are added to a graph, and what is read of it.
use Rattle.std.specs.Prelude.{◌≡◌, ℕ, List, ◌++◌, map, take}
use Rattle.semantic_objects.specs.Tables.{Table, with_all}
use Rattle.semantic_objects.specs.Environments.{Env, Top, env_of}
use Rattle.env_parts.specs.declared.facts.Facts.{Facts}
use Rattle.env_parts.specs.declared.tables.EnvTables.{EnvTables}
use Rattle.env_parts.specs.declared.tables.TopTables.{TopTables}
use Rattle.sml_modules.specs.declared.node.Node.{Node}
use Rattle.sml_modules.specs.declared.parts.NamedEnv.{NamedEnv}
use Rattle.sml_modules.specs.declared.parts.NamedType.{NamedType}
use Rattle.sml_modules.specs.declared.parts.NamedValue.{NamedValue}
use Rattle.sml_modules.specs.Items.{Item, at, as_env, as_type, as_value, IsType, IsValue, map_rows}
use Rattle.env_parts.specs.Types.{no_facts}
use Rattle.env_parts.specs.TypeSteps.{joined}
use Rattle.sml_modules.specs.Items.{item_facts}
use Rattle.sml_modules.specs.Graphs.{Graph, type_rows, value_rows}
use Rattle.sml_modules.specs.Nodes.{node_item, IsNodeAfter, AreAll, AreEnvTables, AreTopTables, env_of_tables, top_of_tables}

-- the node at a place: the item there is its tree, and its parts and its facts are as they should be
pub record StandsAt (items : List Item) (place : ℕ) (x : Node) : Type 0 where
  pub is : at items place ≡ node_item items x
  pub node : IsNodeAfter items x

-- nodes were added
pub record Extends (old new : Graph) : Type 0 where
  pub more : List Item
  pub items : new.items ≡ old.items ++ more
  pub home : new.home ≡ old.home
  pub made : new.made ≡ old.made

-- nodes were added, of which the one at a place stands for this
pub record Adds (old new : Graph) (item : Item) (place : ℕ) : Type 0 where
  pub stands : at new.items place ≡ item
  pub extends : Extends old new

-- a graph of its first nodes
abbrev pub cut : ℕ → Graph → Graph
cut n g = record { items = take n g.items; home = g.home; made = g.made }

-- the tables of an environment
pub record ReadsEnv (items : List Item) (env : Env) (tables : EnvTables) : Type 0 where
  pub are : AreEnvTables items tables
  pub is : env ≡ env_of_tables items tables

-- the tables of a top
pub record ReadsTop (items : List Item) (top : Top) (tables : TopTables) : Type 0 where
  pub are : AreTopTables items tables
  pub is : top ≡ top_of_tables items tables

-- structures as rows of places
abbrev pub place_rows : List NamedEnv → Table ℕ
place_rows entries = map (λ (e : NamedEnv). (e.name, e.env.place)) entries

-- rows of new nodes over those that were there
pub record KeepsTypes (old : List Item) (rows : Table ℕ) (entries : List NamedType) (new : List Item) (set : Table ℕ)
    : Type 0 where
  pub are : AreAll IsType new set
  pub is : map_rows (λ p. as_type (at new p)) set
      ≡ with_all (type_rows entries) (map_rows (λ p. as_type (at old p)) rows)

pub record KeepsValues (old : List Item) (rows : Table ℕ) (entries : List NamedValue) (new : List Item)
    (set : Table ℕ) : Type 0 where
  pub are : AreAll IsValue new set
  pub is : map_rows (λ p. as_value (at new p)) set
      ≡ with_all (value_rows entries) (map_rows (λ p. as_value (at old p)) rows)

-- the environment of tables with entries over them
abbrev pub over_tables : List Item → EnvTables → List NamedType → List NamedValue → Env
over_tables items tables types values = env_of
    (map_rows (λ p. as_env (at items p)) tables.structures)
    (with_all (type_rows types) (map_rows (λ p. as_type (at items p)) tables.types))
    (with_all (value_rows values) (map_rows (λ p. as_value (at items p)) tables.values))

-- the facts of what stands at places
abbrev pub facts_at_places : List Item → List ℕ → List Facts
facts_at_places items places = map (λ p. item_facts (at items p)) places

-- the facts of what stands in rows
abbrev pub rows_facts : List Item → Table ℕ → Facts
rows_facts items rows = joined no_facts (facts_at_places items (map (λ row. row.1) rows))
