-- The walk for a realisation through structures.
use Rattle.std.proofs.Common.{◌≡◌, ℕ, refl, sym, ap, ◌∙◌, subst, List, [], ◌∷◌, ◌++◌, Some, None}
use Rattle.std.specs.Prelude.{Result, Ok, Err}
use Rattle.std.specs.Option.{option_map}
use Rattle.std.specs.List.{join_with_byte}
use Rattle.cm_base.specs.declared.diag.Place.{Place}
use Rattle.cm_base.specs.declared.fault.Fault.{Fault}
use Rattle.cm_base.specs.declared.fault.Fault.TheVariants as fault
use Rattle.semantic_objects.specs.declared.name.TyName.{TyName}
use Rattle.semantic_objects.specs.declared.entry.ValueEntry.{ValueEntry}
use Rattle.semantic_objects.specs.Tables.{Table}
use Rattle.semantic_objects.specs.Environments.{Env, structures}
use Rattle.unification.specs.Types.{State}
use Rattle.env_parts.specs.declared.tables.EnvTables.{EnvTables}
use Rattle.sml_modules.specs.Items.{Item as Node, at, as_type, as_value, as_env, map_rows}
use Rattle.sml_modules.specs.Adding.{ReadsEnv}
use Rattle.type_walks.specs.Replaced.{rows_of}
use Rattle.static_semantics.specs.Inferring.{Scope, Answer, ◌>>=◌, gives, diag_at, found_at}
use Rattle.static_semantics.specs.Holding.{AllItems}
use Rattle.static_semantics.specs.EnvironmentsPut.{put_env}
use Rattle.module_semantics.specs.Matching.{Item, Rows, present, items_under, type_items, value_items, realising_all}
use Rattle.core_scopes.specs.Paths.{led_on}
use Rattle.type_phrases.specs.Inferred.{Answers}
use Rattle.structure_matching.specs.declared.parts.Component.{Component}
use Rattle.structure_matching.specs.declared.parts.EnvPair.{EnvPair}
use Rattle.structure_matching.specs.declared.search.Search.{Search}
use Rattle.structure_matching.specs.Found.{specified_rows, AreFound}
use Rattle.structure_matching.specs.Searching.{at_of, Continues, Enters, Leaves, Realises, FindsStructure, FindsType, known_env, structure_of_component, type_of_component, of_components}
use Rattle.structure_matching.proofs.Leading.{led_to, structures_found, types_found, env_items, env_structures}
use Rattle.structure_matching.proofs.RealisingSteps.{realising_all-append, goes_on, stops, same_answer}

-- ---- one structure

pub there : (inner : Scope) (place : Place) (s : State) (root : Env) (bound : List TyName) (path : List (List ℕ))
    (xs : List Item) (rows : Rows) (e : Env) → found_at structures path root ≡ Some e
    → realising_all inner (at_of place) s root bound (Item.StructureItem path ∷ xs) rows
    ≡ realising_all inner (at_of place) s root bound xs rows
there inner place s root bound path xs rows e h =
    ap (λ o. (present inner (at_of place) path o >>= λ z. gives rows) >>= realising_all inner (at_of place) s root bound xs) h

pub missing : (inner : Scope) (place : Place) (s : State) (root : Env) (bound : List TyName) (path : List (List ℕ))
    (xs : List Item) (rows : Rows) → found_at structures path root ≡ None
    → realising_all inner (at_of place) s root bound (Item.StructureItem path ∷ xs) rows
    ≡ Some (Err (diag_at 36 inner (at_of place) (join_with_byte 46 path ∷ [])))
missing inner place s root bound path xs rows h =
    ap (λ o. (present inner (at_of place) path o >>= λ z. gives rows) >>= realising_all inner (at_of place) s root bound xs) h

-- what a walk through an environment is, of which an id stands for what is specified, and one for what is found
abbrev pub IsEntered : List Node → List (List ℕ) → ℕ → State → Env → Type 0
IsEntered items path found s root = led_on path root ≡ Some (put_env s.stands (as_env (at items found)))

abbrev pub WalksEnv : Place → Search → Search → Result (Unit {0}) Fault → List Node → EnvPair → Type 0
WalksEnv place old new result items pair = Realises place old new result
    (IsEntered items old.path pair.found.place) (items_under old.path (as_env (at items pair.specified.place)))

-- the same from before the structure was entered
entered : (place : Place) (old inside new : Search) (r : Result (Unit {0}) Fault) (items : List Node) (c : Component)
    (found : ℕ) (pair : EnvPair)
    → (let p : EnvPair = record { specified = record { place = c.specified }; found = record { place = found } } in
    pair ≡ p)
    → Enters old inside c.name → WalksEnv place inside new r items pair
    → (inner : Scope) (s : State) (root : Env) → inner.home ≡ place.file
    → IsEntered items (old.path ++ c.name ∷ []) found s root
    → Answers (realising_all inner (at_of place) s root old.bound.names
    (items_under (old.path ++ c.name ∷ []) (as_env (at items c.specified))) (rows_of old.rows)) (λ u. rows_of new.rows) r
entered place old inside new r items c found pair e h w inner s root home k =
    let a : Answers (realising_all inner (at_of place) s root inside.bound.names
    (items_under inside.path (as_env (at items pair.specified.place))) (rows_of inside.rows)) (λ u. rows_of new.rows) r =
    w inner s root home (subst (λ path. IsEntered items path pair.found.place s root) (sym h.path)
    (subst (λ (p : EnvPair). IsEntered items (old.path ++ c.name ∷ []) p.found.place s root) (sym e) k)) in
    subst (λ (m : Answer Rows). Answers m (λ u. rows_of new.rows) r)
    (ap (λ (p : EnvPair). realising_all inner (at_of place) s root inside.bound.names
    (items_under inside.path (as_env (at items p.specified.place))) (rows_of inside.rows)) e
    ∙ ap (λ path. realising_all inner (at_of place) s root inside.bound.names
    (items_under path (as_env (at items c.specified))) (rows_of inside.rows)) h.path
    ∙ ap (λ names. realising_all inner (at_of place) s root names
    (items_under (old.path ++ c.name ∷ []) (as_env (at items c.specified))) (rows_of inside.rows)) h.bound
    ∙ ap (realising_all inner (at_of place) s root old.bound.names
    (items_under (old.path ++ c.name ∷ []) (as_env (at items c.specified)))) h.rows) a

pub is_led : (items : List Node) (path : List (List ℕ)) (c : Component) (found : ℕ) (s : State) (root : Env)
    → c.found ≡ Some found → FindsStructure items path s root c
    → (found_at structures (path ++ c.name ∷ []) root ≡ Some (known_env items s found))
    × IsEntered items (path ++ c.name ∷ []) found s root
is_led items path c found s root e h =
    let k : found_at structures (path ++ c.name ∷ []) root ≡ Some (known_env items s found) =
    h ∙ ap (option_map (known_env items s)) e in (k, led_to path c.name root ∙ k)

abbrev pub PairOf : Component → ℕ → EnvPair → Type 0
PairOf c found pair = (let p : EnvPair = record { specified = record { place = c.specified }; found = record { place = found } } in
    pair ≡ p)

pub structure_done : (place : Place) (old inside new last : Search) (items : List Node) (c : Component) (found : ℕ)
    (pair : EnvPair) → c.found ≡ Some found → PairOf c found pair → Enters old inside c.name
    → WalksEnv place inside new (Ok tt) items pair → Leaves new last
    → Realises place old last (Ok tt) (λ s root. FindsStructure items old.path s root c)
    (structure_of_component items old.path c)
structure_done place old inside new last items c found pair e is h w l inner s root home k =
    let led = is_led items old.path c found s root e k in
    there inner place s root old.bound.names (old.path ++ c.name ∷ [])
    (items_under (old.path ++ c.name ∷ []) (as_env (at items c.specified))) (rows_of old.rows) (known_env items s found)
    led.0
    ∙ entered place old inside new (Ok tt) items c found pair is h w inner s root home led.1
    ∙ ap gives (sym l.rows)

pub structure_fails : (place : Place) (old inside new last : Search) (items : List Node) (c : Component) (found : ℕ)
    (pair : EnvPair) (f : Fault) → c.found ≡ Some found → PairOf c found pair → Enters old inside c.name
    → WalksEnv place inside new (Err f) items pair
    → Realises place old last (Err f) (λ s root. FindsStructure items old.path s root c)
    (structure_of_component items old.path c)
structure_fails place old inside new last items c found pair (fault.Diag d) e is h w inner s root home k =
    let led = is_led items old.path c found s root e k in
    there inner place s root old.bound.names (old.path ++ c.name ∷ [])
    (items_under (old.path ++ c.name ∷ []) (as_env (at items c.specified))) (rows_of old.rows) (known_env items s found)
    led.0
    ∙ entered place old inside new (Err (fault.Diag d)) items c found pair is h w inner s root home led.1
structure_fails place old inside new last items c found pair fault.NoMemory e is h w inner s root home k = tt

-- ---- an environment

values_pass : (inner : Scope) (place : Place) (s : State) (root : Env) (bound : List TyName) (path : List (List ℕ))
    (vs : Table ValueEntry) (rows : Rows)
    → realising_all inner (at_of place) s root bound (value_items path vs) rows ≡ gives rows
values_pass inner place s root bound path [] rows = refl
values_pass inner place s root bound path (v ∷ vs) rows = values_pass inner place s root bound path vs rows

pub structures_stop : (place : Place) (old last : Search) (items : List Node) (env found : Env)
    (tables others : EnvTables) (ss : List Component) (f : Fault) → ReadsEnv items env tables
    → specified_rows ss ≡ tables.structures → ReadsEnv items found others → AreFound others.structures ss
    → Realises place old last (Err f) (λ s root. AllItems (FindsStructure items old.path s root) ss)
    (of_components (structure_of_component items old.path) ss)
    → Realises place old last (Err f) (λ s root. led_on old.path root ≡ Some (put_env s.stands found))
    (items_under old.path env)
structures_stop place old last items env found tables others ss (fault.Diag d) r e q h w inner s root home led =
    let xs : List Item = of_components (structure_of_component items old.path) ss in
    let ys : List Item = type_items old.path (map_rows (λ p. as_type (at items p)) tables.types)
    ++ value_items old.path (map_rows (λ p. as_value (at items p)) tables.values) in
    ap (λ zs. realising_all inner (at_of place) s root old.bound.names zs (rows_of old.rows))
    (env_structures items old.path env tables ss r e)
    ∙ realising_all-append inner place s root old.bound.names xs ys (rows_of old.rows)
    ∙ stops (realising_all inner (at_of place) s root old.bound.names xs (rows_of old.rows)) d
    (realising_all inner (at_of place) s root old.bound.names ys)
    (w inner s root home (structures_found items old.path s root found others ss q h led))
structures_stop place old last items env found tables others ss fault.NoMemory r e q h w inner s root home led = tt

-- the types after the structures, and what a walk over them answers
pub types_last : (place : Place) (old mid last : Search) (items : List Node) (env found : Env)
    (tables others : EnvTables) (ss ts : List Component) (r : Result (Unit {0}) Fault) → ReadsEnv items env tables
    → specified_rows ss ≡ tables.structures → specified_rows ts ≡ tables.types → ReadsEnv items found others
    → AreFound others.structures ss → AreFound others.types ts
    → Realises place old mid (Ok tt) (λ s root. AllItems (FindsStructure items old.path s root) ss)
    (of_components (structure_of_component items old.path) ss)
    → Continues old mid
    → Realises place mid last r (λ s root. AllItems (FindsType items mid.path s root) ts)
    (of_components (type_of_component items mid.path) ts)
    → Realises place old last r (λ s root. led_on old.path root ≡ Some (put_env s.stands found))
    (items_under old.path env)
types_last place old mid last items env found tables others ss ts r reads e f q h k first c second inner s root home led =
    let walk : List Item → Rows → Answer Rows = realising_all inner (at_of place) s root old.bound.names in
    let xs : List Item = of_components (structure_of_component items old.path) ss in
    let ys : List Item = of_components (type_of_component items old.path) ts in
    let zs : List Item = value_items old.path (map_rows (λ p. as_value (at items p)) tables.values) in
    let to : walk (items_under old.path env) (rows_of old.rows) ≡ (walk ys (rows_of mid.rows) >>= walk zs) =
    ap (λ is. walk is (rows_of old.rows)) (env_items items old.path env tables ss ts reads e f)
    ∙ realising_all-append inner place s root old.bound.names xs (ys ++ zs) (rows_of old.rows)
    ∙ goes_on (walk xs (rows_of old.rows)) (rows_of mid.rows) (walk (ys ++ zs))
    (first inner s root home (structures_found items old.path s root found others ss q h led))
    ∙ realising_all-append inner place s root old.bound.names ys zs (rows_of mid.rows) in
    let types : Answers (walk ys (rows_of mid.rows)) (λ u. rows_of last.rows) r =
    subst (λ names. Answers (realising_all inner (at_of place) s root names ys (rows_of mid.rows)) (λ u. rows_of last.rows) r)
    c.bound
    (subst (λ path. AllItems (FindsType items path s root) ts
    → Answers (realising_all inner (at_of place) s root mid.bound.names (of_components (type_of_component items path) ts)
    (rows_of mid.rows)) (λ u. rows_of last.rows) r) c.path (second inner s root home)
    (types_found items old.path s root found others ts q k led)) in
    same_answer (walk (items_under old.path env) (rows_of old.rows)) (walk ys (rows_of mid.rows) >>= walk zs)
    (λ u. rows_of last.rows) r to (with_values r (walk ys (rows_of mid.rows)) types)
  where
    with_values : (r : Result (Unit {0}) Fault) (m : Answer Rows) → Answers m (λ u. rows_of last.rows) r
        → Answers (m >>= realising_all inner (at_of place) s root old.bound.names
        (value_items old.path (map_rows (λ p. as_value (at items p)) tables.values))) (λ u. rows_of last.rows) r
    with_values (Ok u) m h = goes_on m (rows_of last.rows) (realising_all inner (at_of place) s root old.bound.names
        (value_items old.path (map_rows (λ p. as_value (at items p)) tables.values))) h
        ∙ values_pass inner place s root old.bound.names old.path (map_rows (λ p. as_value (at items p)) tables.values)
        (rows_of last.rows)
    with_values (Err (fault.Diag d)) m h = stops m d (realising_all inner (at_of place) s root old.bound.names
        (value_items old.path (map_rows (λ p. as_value (at items p)) tables.values))) h
    with_values (Err fault.NoMemory) m h = tt
