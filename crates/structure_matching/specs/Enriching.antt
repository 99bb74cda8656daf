-- A walk over what is specified. Only private functions cite this file.
use Rattle.std.specs.Prelude.{◌≡◌, ℕ, List, [], ◌∷◌, ◌++◌, Result, true}
use Rattle.cm_base.specs.declared.diag.Place.{Place}
use Rattle.cm_base.specs.declared.fault.Fault.{Fault}
use Rattle.semantic_objects.specs.declared.entry.ValueEntry.{ValueEntry}
use Rattle.semantic_objects.specs.Environments.{Env, values}
use Rattle.unification.specs.Types.{State}
use Rattle.sml_modules.specs.Items.{Item as Node, at, as_value, as_env}
use Rattle.static_semantics.specs.Inferring.{Scope, gives}
use Rattle.static_semantics.specs.EnvironmentsPut.{put_value}
use Rattle.module_semantics.specs.Matching.{Item, items_under, enriching_all}
use Rattle.type_phrases.specs.Inferred.{Answers}
use Rattle.matched_pairs.specs.declared.pairs.Pairs.{Pairs}
use Rattle.matched_pairs.specs.Pairs.{has_pair}
use Rattle.structure_matching.specs.declared.parts.Component.{Component}
use Rattle.structure_matching.specs.Searching.{at_of, IsFound, known_env}

-- values of a graph as they are known in a state
abbrev pub known_value : List Node → State → ℕ → ValueEntry
known_value items s p = put_value s.stands (as_value (at items p))

abbrev pub FindsValue : List Node → List (List ℕ) → State → Env → Component → Type 0
FindsValue items path s root c = IsFound values (known_value items s) root path c

abbrev pub value_of_component : List Node → List (List ℕ) → Component → List Item
value_of_component items path c = Item.ValueItem (path ++ c.name ∷ []) (as_value (at items c.specified)) ∷ []

-- what a walk over items answers in a state, in an environment of which something is known: nothing, or the first
-- diagnostic
abbrev pub Enriches : Place → State → Result (Unit {0}) Fault → (Env → Type 0) → List Item → Type 0
Enriches place s result Finds items = (inner : Scope) (root : Env) → inner.home ≡ place.file → Finds root
    → Answers (enriching_all inner (at_of place) s root items) (λ (u : Unit {0}). tt) result

-- an environment that is found at one place has all that is specified at another one, at whatever path it stands
abbrev pub Meets : Place → State → List Node → ℕ → ℕ → Type 0
Meets place s items specified found = (inner : Scope) → inner.home ≡ place.file
    → enriching_all inner (at_of place) s (known_env items s found) (items_under [] (as_env (at items specified)))
    ≡ gives tt

-- .. and so it is with each of some pairs
pub record AllMeet (place : Place) (s : State) (items : List Node) (pairs : Pairs) : Type 0 where
  pub each : (specified found : ℕ) → has_pair pairs specified found ≡ true → Meets place s items specified found
