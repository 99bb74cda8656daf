-- The walk over what is specified, through structures.
use Rattle.std.proofs.Common.{◌≡◌, ℕ, refl, sym, ap, ◌∙◌, subst, List, [], ◌∷◌, ◌++◌, Some}
use Rattle.std.specs.Prelude.{Result, Ok, Err}
use Rattle.std.specs.Option.{option_map}
use Rattle.cm_base.specs.declared.diag.Place.{Place}
use Rattle.cm_base.specs.declared.fault.Fault.{Fault}
use Rattle.cm_base.specs.declared.fault.Fault.TheVariants as fault
use Rattle.semantic_objects.specs.Environments.{Env, structures}
use Rattle.unification.specs.Types.{State}
use Rattle.env_parts.specs.declared.tables.EnvTables.{EnvTables}
use Rattle.sml_modules.specs.Items.{Item as Node, at, as_type, as_value, as_env, map_rows}
use Rattle.sml_modules.specs.Adding.{ReadsEnv}
use Rattle.static_semantics.specs.Inferring.{Scope, Answer, ◌>>=◌, gives, found_at}
use Rattle.static_semantics.specs.Holding.{AllItems}
use Rattle.static_semantics.specs.EnvironmentsPut.{put_env}
use Rattle.module_semantics.specs.Matching.{Item, present, items_under, type_items, value_items, enriching_all}
use Rattle.core_scopes.specs.Paths.{led_on}
use Rattle.structure_matching.specs.declared.parts.Component.{Component}
use Rattle.structure_matching.specs.declared.parts.EnvPair.{EnvPair}
use Rattle.structure_matching.specs.Found.{specified_rows, AreFound}
use Rattle.structure_matching.specs.Searching.{at_of, FindsStructure, FindsType, known_env, structure_of_component, type_of_component, of_components}
use Rattle.structure_matching.specs.Enriching.{FindsValue, value_of_component, Enriches}
use Rattle.structure_matching.proofs.Leading.{led_to, structures_found, types_found, values_found, env_items, env_structures}
use Rattle.structure_matching.proofs.RealisingSteps.{goes_on, stops, same_answer}
use Rattle.structure_matching.proofs.RealisingEnvs.{IsEntered, PairOf}
use Rattle.structure_matching.proofs.EnrichingSteps.{enriching_all-append}

pub there : (inner : Scope) (place : Place) (s : State) (root : Env) (path : List (List ℕ)) (xs : List Item) (e : Env)
    → found_at structures path root ≡ Some e
    → enriching_all inner (at_of place) s root (Item.StructureItem path ∷ xs)
    ≡ enriching_all inner (at_of place) s root xs
there inner place s root path xs e h =
    ap (λ o. (present inner (at_of place) path o >>= λ z. gives tt) >>= λ u. enriching_all inner (at_of place) s root xs) h

-- a structure that is found, of which the walk inside answers this
pub structure_walked : (place : Place) (s : State) (r : Result (Unit {0}) Fault) (items : List Node)
    (path inside : List (List ℕ)) (c : Component) (found : ℕ) (pair : EnvPair) → c.found ≡ Some found
    → PairOf c found pair → inside ≡ path ++ c.name ∷ []
    → Enriches place s r (IsEntered items inside pair.found.place s)
    (items_under inside (as_env (at items pair.specified.place)))
    → Enriches place s r (λ root. FindsStructure items path s root c) (structure_of_component items path c)
structure_walked place s r items path inside c found pair e is same w inner root home k =
    let p : EnvPair = record { specified = record { place = c.specified }; found = record { place = found } } in
    let there_is : found_at structures (path ++ c.name ∷ []) root ≡ Some (known_env items s found) =
    k ∙ ap (option_map (known_env items s)) e in
    let led : IsEntered items (path ++ c.name ∷ []) found s root = led_to path c.name root ∙ there_is in
    let walked : Enriches place s r (IsEntered items (path ++ c.name ∷ []) found s)
    (items_under (path ++ c.name ∷ []) (as_env (at items c.specified))) =
    subst (λ q. Enriches place s r (IsEntered items q found s) (items_under q (as_env (at items c.specified)))) same
    (subst (λ (q : EnvPair). Enriches place s r (IsEntered items inside q.found.place s)
    (items_under inside (as_env (at items q.specified.place)))) is w) in
    same_answer (enriching_all inner (at_of place) s root (structure_of_component items path c))
    (enriching_all inner (at_of place) s root (items_under (path ++ c.name ∷ []) (as_env (at items c.specified))))
    (λ (u : Unit {0}). tt) r
    (there inner place s root (path ++ c.name ∷ [])
    (items_under (path ++ c.name ∷ []) (as_env (at items c.specified))) (known_env items s found) there_is)
    (walked inner root home led)

-- ---- an environment

values_specified : (items : List Node) (path : List (List ℕ)) (cs : List Component)
    → value_items path (map_rows (λ p. as_value (at items p)) (specified_rows cs))
    ≡ of_components (value_of_component items path) cs
values_specified items path [] = refl
values_specified items path (c ∷ cs) =
    ap (λ xs. Item.ValueItem (path ++ c.name ∷ []) (as_value (at items c.specified)) ∷ xs)
    (values_specified items path cs)

pub structures_stop : (place : Place) (s : State) (items : List Node) (path : List (List ℕ)) (env found : Env)
    (tables others : EnvTables) (ss : List Component) (f : Fault) → ReadsEnv items env tables
    → specified_rows ss ≡ tables.structures → ReadsEnv items found others → AreFound others.structures ss
    → Enriches place s (Err f) (λ root. AllItems (FindsStructure items path s root) ss)
    (of_components (structure_of_component items path) ss)
    → Enriches place s (Err f) (λ root. led_on path root ≡ Some (put_env s.stands found)) (items_under path env)
structures_stop place s items path env found tables others ss (fault.Diag d) r e q h w inner root home led =
    let xs : List Item = of_components (structure_of_component items path) ss in
    let ys : List Item = type_items path (map_rows (λ p. as_type (at items p)) tables.types)
    ++ value_items path (map_rows (λ p. as_value (at items p)) tables.values) in
    ap (enriching_all inner (at_of place) s root) (env_structures items path env tables ss r e)
    ∙ enriching_all-append inner place s root xs ys
    ∙ stops (enriching_all inner (at_of place) s root xs) d (λ u. enriching_all inner (at_of place) s root ys)
    (w inner root home (structures_found items path s root found others ss q h led))
structures_stop place s items path env found tables others ss fault.NoMemory r e q h w inner root home led = tt

-- after the structures
types_then : (place : Place) (s : State) (items : List Node) (path : List (List ℕ)) (env found : Env)
    (tables others : EnvTables) (ss ts : List Component) → ReadsEnv items env tables
    → specified_rows ss ≡ tables.structures → specified_rows ts ≡ tables.types → ReadsEnv items found others
    → AreFound others.structures ss
    → Enriches place s (Ok tt) (λ root. AllItems (FindsStructure items path s root) ss)
    (of_components (structure_of_component items path) ss)
    → (inner : Scope) (root : Env) → inner.home ≡ place.file → led_on path root ≡ Some (put_env s.stands found)
    → enriching_all inner (at_of place) s root (items_under path env)
    ≡ (enriching_all inner (at_of place) s root (of_components (type_of_component items path) ts)
    >>= λ u. enriching_all inner (at_of place) s root
    (value_items path (map_rows (λ p. as_value (at items p)) tables.values)))
types_then place s items path env found tables others ss ts r e f q h w inner root home led =
    let walk : List Item → Answer (Unit {0}) = enriching_all inner (at_of place) s root in
    let xs : List Item = of_components (structure_of_component items path) ss in
    let ys : List Item = of_components (type_of_component items path) ts in
    let zs : List Item = value_items path (map_rows (λ p. as_value (at items p)) tables.values) in
    ap walk (env_items items path env tables ss ts r e f)
    ∙ enriching_all-append inner place s root xs (ys ++ zs)
    ∙ goes_on (walk xs) tt (λ u. walk (ys ++ zs))
    (w inner root home (structures_found items path s root found others ss q h led))
    ∙ enriching_all-append inner place s root ys zs

pub types_stop : (place : Place) (s : State) (items : List Node) (path : List (List ℕ)) (env found : Env)
    (tables others : EnvTables) (ss ts : List Component) (f : Fault) → ReadsEnv items env tables
    → specified_rows ss ≡ tables.structures → specified_rows ts ≡ tables.types → ReadsEnv items found others
    → AreFound others.structures ss → AreFound others.types ts
    → Enriches place s (Ok tt) (λ root. AllItems (FindsStructure items path s root) ss)
    (of_components (structure_of_component items path) ss)
    → Enriches place s (Err f) (λ root. AllItems (FindsType items path s root) ts)
    (of_components (type_of_component items path) ts)
    → Enriches place s (Err f) (λ root. led_on path root ≡ Some (put_env s.stands found)) (items_under path env)
types_stop place s items path env found tables others ss ts (fault.Diag d) r e f q h k w v inner root home led =
    types_then place s items path env found tables others ss ts r e f q h w inner root home led
    ∙ stops (enriching_all inner (at_of place) s root (of_components (type_of_component items path) ts)) d
    (λ u. enriching_all inner (at_of place) s root
    (value_items path (map_rows (λ p. as_value (at items p)) tables.values)))
    (v inner root home (types_found items path s root found others ts q k led))
types_stop place s items path env found tables others ss ts fault.NoMemory r e f q h k w v inner root home led = tt

pub values_last : (place : Place) (s : State) (items : List Node) (path : List (List ℕ)) (env found : Env)
    (tables others : EnvTables) (ss ts vs : List Component) (answer : Result (Unit {0}) Fault) → ReadsEnv items env tables
    → specified_rows ss ≡ tables.structures → specified_rows ts ≡ tables.types → specified_rows vs ≡ tables.values
    → ReadsEnv items found others → AreFound others.structures ss → AreFound others.types ts → AreFound others.values vs
    → Enriches place s (Ok tt) (λ root. AllItems (FindsStructure items path s root) ss)
    (of_components (structure_of_component items path) ss)
    → Enriches place s (Ok tt) (λ root. AllItems (FindsType items path s root) ts)
    (of_components (type_of_component items path) ts)
    → Enriches place s answer (λ root. AllItems (FindsValue items path s root) vs)
    (of_components (value_of_component items path) vs)
    → Enriches place s answer (λ root. led_on path root ≡ Some (put_env s.stands found)) (items_under path env)
values_last place s items path env found tables others ss ts vs answer r e f g q h k l w v x inner root home led =
    let walk : List Item → Answer (Unit {0}) = enriching_all inner (at_of place) s root in
    same_answer (walk (items_under path env)) (walk (of_components (value_of_component items path) vs))
    (λ (u : Unit {0}). tt) answer
    (types_then place s items path env found tables others ss ts r e f q h w inner root home led
    ∙ goes_on (walk (of_components (type_of_component items path) ts)) tt
    (λ u. walk (value_items path (map_rows (λ p. as_value (at items p)) tables.values)))
    (v inner root home (types_found items path s root found others ts q k led))
    ∙ ap (λ rows. walk (value_items path (map_rows (λ p. as_value (at items p)) rows))) (sym g)
    ∙ ap walk (values_specified items path vs))
    (x inner root home (values_found items path s root found others vs q l led))
