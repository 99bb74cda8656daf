-- A walk for a realisation. Only private functions cite this file.
use Rattle.std.specs.Prelude.{◌≡◌, ℕ, List, [], ◌∷◌, ◌++◌, Result, true}
use Rattle.std.specs.Option.{option_map}
use Rattle.cm_base.specs.declared.diag.Place.{Place}
use Rattle.cm_base.specs.declared.fault.Fault.{Fault}
use Rattle.sml_trees.specs.declared.name.At.{At}
use Rattle.semantic_objects.specs.declared.name.TyName.{TyName}
use Rattle.semantic_objects.specs.declared.entry.TypeStr.{TypeStr}
use Rattle.semantic_objects.specs.Tables.{Table}
use Rattle.semantic_objects.specs.Environments.{Env, structures, types}
use Rattle.unification.specs.Types.{State}
use Rattle.sml_modules.specs.Items.{Item as Node, at, as_type, as_env}
use Rattle.type_walks.specs.Tables.{AreTold}
use Rattle.type_walks.specs.Replaced.{rows_of, IsReady}
use Rattle.static_semantics.specs.Inferring.{Scope, gives, found_at}
use Rattle.static_semantics.specs.EnvironmentsPut.{put_type, put_env}
use Rattle.module_semantics.specs.Matching.{Item, Rows, items_under, realising_all}
use Rattle.type_phrases.specs.Inferred.{Answers}
use Rattle.matched_pairs.specs.declared.pairs.Pairs.{Pairs}
use Rattle.matched_pairs.specs.Pairs.{has_pair}
use Rattle.structure_matching.specs.declared.parts.Component.{Component}
use Rattle.structure_matching.specs.declared.search.Search.{Search}

-- where a place is in its file
abbrev pub at_of : Place → At
at_of place = record { line = place.line; col = place.col }

-- the tables tell of what the lists have
pub record IsSearch (search : Search) : Type 0 where
  pub told : AreTold search.bound
  pub ready : IsReady search.realised search.rows

-- a walk went on, and is where it was
pub record Continues (old new : Search) : Type 0 where
  pub path : new.path ≡ old.path
  pub bound : new.bound.names ≡ old.bound.names
  pub search : IsSearch new

-- a structure was entered, and the last one was left: nothing else happened
pub record Enters (old new : Search) (name : List ℕ) : Type 0 where
  pub path : new.path ≡ old.path ++ name ∷ []
  pub bound : new.bound.names ≡ old.bound.names
  pub rows : rows_of new.rows ≡ rows_of old.rows
  pub search : IsSearch new

pub record Leaves (old new : Search) : Type 0 where
  pub path : (front : List (List ℕ)) (last : List ℕ) → old.path ≡ front ++ last ∷ [] → new.path ≡ front
  pub bound : new.bound.names ≡ old.bound.names
  pub rows : rows_of new.rows ≡ rows_of old.rows
  pub search : IsSearch new

-- ---- what is found

-- what stands under a component's name in an environment, where `known` tells what it is by its place in the graph
abbrev pub IsFound : {A : Type 0} → (Env → Table A) → (ℕ → A) → Env → List (List ℕ) → Component → Type 0
IsFound table known root path c = found_at table (path ++ c.name ∷ []) root ≡ option_map known c.found

-- type structures and environments of a graph as they are known in a state
abbrev pub known_type : List Node → State → ℕ → TypeStr
known_type items s p = put_type s.stands (as_type (at items p))

abbrev pub known_env : List Node → State → ℕ → Env
known_env items s p = put_env s.stands (as_env (at items p))

abbrev pub FindsType : List Node → List (List ℕ) → State → Env → Component → Type 0
FindsType items path s root c = IsFound types (known_type items s) root path c

abbrev pub FindsStructure : List Node → List (List ℕ) → State → Env → Component → Type 0
FindsStructure items path s root c = IsFound structures (known_env items s) root path c

-- ---- what is specified

abbrev pub type_of_component : List Node → List (List ℕ) → Component → List Item
type_of_component items path c = Item.TypeItem (path ++ c.name ∷ []) (as_type (at items c.specified)) ∷ []

abbrev pub structure_of_component : List Node → List (List ℕ) → Component → List Item
structure_of_component items path c = Item.StructureItem (path ++ c.name ∷ [])
    ∷ items_under (path ++ c.name ∷ []) (as_env (at items c.specified))

abbrev pub of_components : (Component → List Item) → List Component → List Item
of_components items_of [] = []
of_components items_of (c ∷ cs) = items_of c ++ of_components items_of cs

-- ---- what a walk answers

-- the rows after a walk over items, in an environment of which something is known, or the first diagnostic
abbrev pub Realises : Place → Search → Search → Result (Unit {0}) Fault → (State → Env → Type 0) → List Item → Type 0
Realises place old new result Finds items = (inner : Scope) (s : State) (root : Env) → inner.home ≡ place.file
    → Finds s root
    → Answers (realising_all inner (at_of place) s root old.bound.names items (rows_of old.rows))
    (λ u. rows_of new.rows) result

-- where one environment is specified and another one is found, all is realised by these rows: a walk through them adds
-- none to these or to more, at whatever path they stand
abbrev pub IsSettled : Place → List Node → List TyName → Rows → ℕ → ℕ → Type 0
IsSettled place items bound rows specified found = (inner : Scope) (s : State) (more : Rows) → inner.home ≡ place.file
    → realising_all inner (at_of place) s (known_env items s found) bound
    (items_under [] (as_env (at items specified))) (rows ++ more)
    ≡ gives (rows ++ more)

-- .. and so it is with each of some pairs
pub record AreSettled (place : Place) (items : List Node) (search : Search) (pairs : Pairs) : Type 0 where
  pub each : (specified found : ℕ) → has_pair pairs specified found ≡ true
      → IsSettled place items search.bound.names (rows_of search.rows) specified found

-- a walk that begins, for names that a signature binds
pub record Begins (names : List TyName) (begun : Search) : Type 0 where
  pub path : begun.path ≡ []
  pub bound : begun.bound.names ≡ names
  pub rows : rows_of begun.rows ≡ []
  pub search : IsSearch begun
