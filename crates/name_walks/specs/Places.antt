-- The names that stand at places of a graph, and in some of its environments.
use Rattle.std.specs.Prelude.{ℕ, List, [], ◌∷◌, ◌++◌}
use Rattle.semantic_objects.specs.declared.name.TyName.{TyName}
use Rattle.env_parts.specs.Types.{type_types, value_types}
use Rattle.sml_modules.specs.declared.id.EnvId.{EnvId}
use Rattle.sml_modules.specs.Items.{Item, at}
use Rattle.sml_modules.specs.Graphs.{Graph, env_at, HasEnv}
use Rattle.realisation.specs.Names.{names_in_list, names_in_env, is_listed}
use Rattle.environment_walks.specs.declared.places.Images.{Images}
use Rattle.environment_walks.specs.declared.steps.Step.{Step}
use Rattle.environment_walks.specs.declared.steps.Step.TheVariants as step
use Rattle.name_walks.specs.Noting.{Goes}

abbrev pub item_names : Item → List TyName
item_names (Item.TypeItem entry) = names_in_list (type_types entry)
item_names (Item.ValueItem entry) = names_in_list (value_types entry)
item_names (Item.EnvItem env) = names_in_env env
item_names _ = []

abbrev pub place_names : List Item → ℕ → List TyName
place_names items p = item_names (at items p)

-- a node was met whose parts come next: nothing is noted yet
abbrev pub Opens : (ℕ → List TyName) → ℕ → List Step → List Step → Type 0
Opens N p before after =
    (names : List TyName) (done : Images) → Goes is_listed N (step.Enter p) names names done done before after

-- ids of environments of a graph, and the names that occur in these, one after the other
abbrev pub HasAll : Graph → List EnvId → Type 0
HasAll g [] = Unit {0}
HasAll g (id ∷ ids) = HasEnv g id × HasAll g ids

abbrev pub names_in_all : Graph → List EnvId → List TyName
names_in_all g [] = []
names_in_all g (id ∷ ids) = names_in_env (env_at g id) ++ names_in_all g ids
