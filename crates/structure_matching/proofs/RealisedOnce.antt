-- Pairs that went well in the walk for a realisation.
use Rattle.std.proofs.Common.{◌≡◌, ℕ, sym, ap, ◌∙◌, subst, List, [], ◌∷◌, ◌++◌, Some, Bool, true, false, append_assoc, append-nil}
use Rattle.std.specs.Prelude.{Result, Ok, Err, OnOk}
use Rattle.cm_base.specs.declared.diag.Place.{Place}
use Rattle.cm_base.specs.declared.fault.Fault.{Fault}
use Rattle.semantic_objects.specs.declared.name.TyName.{TyName}
use Rattle.semantic_objects.specs.Environments.{Env}
use Rattle.env_parts.specs.declared.tables.EnvTables.{EnvTables}
use Rattle.sml_modules.specs.Items.{Item as Node, at, as_env}
use Rattle.sml_modules.specs.Adding.{ReadsEnv}
use Rattle.type_walks.specs.Replaced.{rows_of}
use Rattle.static_semantics.specs.Inferring.{gives}
use Rattle.static_semantics.specs.Holding.{AllItems}
use Rattle.static_semantics.specs.EnvironmentsPut.{put_env}
use Rattle.module_semantics.specs.Matching.{Item, Rows, items_under, realising_all}
use Rattle.core_scopes.specs.Paths.{led_on}
use Rattle.matched_pairs.specs.declared.pairs.Pairs.{Pairs}
use Rattle.matched_pairs.specs.Pairs.{has_pair, HasOneMore}
use Rattle.matched_pairs.proofs.Adding.{one_more, none_of}
use Rattle.structure_matching.specs.declared.parts.Component.{Component}
use Rattle.structure_matching.specs.declared.parts.EnvPair.{EnvPair}
use Rattle.structure_matching.specs.declared.search.Search.{Search}
use Rattle.structure_matching.specs.Found.{AreFound}
use Rattle.structure_matching.specs.Searching.{at_of, Continues, Enters, Leaves, Realises, FindsStructure, FindsType, known_env, structure_of_component, type_of_component, of_components, IsSettled, AreSettled}
use Rattle.structure_matching.proofs.Behind.{given, gives_by, realises_from, around, led_around}
use Rattle.structure_matching.proofs.Settling.{Grows, all_grow, all_again}
use Rattle.structure_matching.proofs.Leading.{types_found}
use Rattle.structure_matching.proofs.RealisingEnvs.{IsEntered, PairOf, WalksEnv, is_led, there}

pub none_settled : (place : Place) (items : List Node) (search : Search) (pairs : Pairs)
    → ((p q : ℕ) → has_pair pairs p q ≡ false) → AreSettled place items search pairs
none_settled place items search pairs none = record {
  each = none_of (IsSettled place items search.bound.names (rows_of search.rows)) pairs none;
}

-- ---- later searches

-- a search of the same names with the same rows
pub settled_same : (place : Place) (items : List Node) (old new : Search) (pairs : Pairs)
    → new.bound.names ≡ old.bound.names → rows_of new.rows ≡ rows_of old.rows → AreSettled place items old pairs
    → AreSettled place items new pairs
settled_same place items old new pairs e f h = record {
  each = λ p q k. subst (λ names. IsSettled place items names (rows_of new.rows) p q) (sym e)
      (subst (λ rows. IsSettled place items old.bound.names rows p q) (sym f) (h.each p q k));
}

pub settled_inside : (place : Place) (items : List Node) (old inside : Search) (name : List ℕ) (pairs : Pairs)
    → Enters old inside name → AreSettled place items old pairs → AreSettled place items inside pairs
settled_inside place items old inside name pairs h k = settled_same place items old inside pairs h.bound h.rows k

-- one with more rows
grown_settled : (place : Place) (items : List Node) (bound : List TyName) (old new : Rows) (p q : ℕ)
    → IsSettled place items bound old p q → Grows old new → IsSettled place items bound new p q
grown_settled place items bound old new p q h g inner s more home =
    let later : new ++ more ≡ old ++ (g.more ++ more) = ap (λ z. z ++ more) g.is ∙ append_assoc old g.more more in
    subst (λ rows. realising_all inner (at_of place) s (known_env items s q) bound (items_under [] (as_env (at items p))) rows
    ≡ gives rows) (sym later) (h inner s (g.more ++ more) home)

-- .. after a walk over types
pub settled_types : (place : Place) (items : List Node) (mid new : Search) (found : Env) (others : EnvTables)
    (ts : List Component) (pairs : Pairs) (r : Result (Unit {0}) Fault) → ReadsEnv items found others
    → AreFound others.types ts
    → Realises place mid new r (λ s root. AllItems (FindsType items mid.path s root) ts)
    (of_components (type_of_component items mid.path) ts)
    → OnOk r (Continues mid new) → AreSettled place items mid pairs → OnOk r (AreSettled place items new pairs)
settled_types place items mid new found others ts pairs (Ok u) reads are w c h = record {
  each = λ p q k. (λ inner s more home.
      (let env : Env = put_env s.stands found in
      let root : Env = around mid.path env in
      let led : led_on mid.path root ≡ Some env = led_around mid.path env in
      let xs : List Item = of_components (type_of_component items mid.path) ts in
      let grown : Grows (rows_of mid.rows) (rows_of new.rows) =
      all_grow inner place s root mid.bound.names xs (rows_of mid.rows) (rows_of new.rows)
      (w inner s root home (types_found items mid.path s root found others ts reads are led)) in
      subst (λ names. IsSettled place items names (rows_of new.rows) p q) (sym c.bound)
      (grown_settled place items mid.bound.names (rows_of mid.rows) (rows_of new.rows) p q (h.each p q k) grown)
      inner s more home));
}
settled_types place items mid new found others ts pairs (Err f) reads are w c h = tt

-- ---- a pair

-- what a walk realised at one path
settled : (place : Place) (items : List Node) (old new : Search) (specified found : ℕ)
    → Realises place old new (Ok tt) (IsEntered items old.path found) (items_under old.path (as_env (at items specified)))
    → Continues old new → IsSettled place items new.bound.names (rows_of new.rows) specified found
settled place items old new specified found w c inner s more home =
    let env : Env = known_env items s found in
    let what : Env = as_env (at items specified) in
    let root : Env = around old.path env in
    let led : led_on old.path root ≡ Some env = led_around old.path env in
    let gave : realising_all inner (at_of place) s env old.bound.names (items_under [] what) (rows_of old.rows)
    ≡ gives (rows_of new.rows) =
    gives_by (realising_all inner (at_of place) s env old.bound.names (items_under [] what) (rows_of old.rows))
    (rows_of new.rows)
    (sym (realises_from inner place s root env old.bound.names old.path what (rows_of old.rows) led)
    ∙ ap given (w inner s root home led)) in
    subst (λ names. realising_all inner (at_of place) s env names (items_under [] what) (rows_of new.rows ++ more)
    ≡ gives (rows_of new.rows ++ more)) (sym c.bound)
    (all_again inner place s env old.bound.names (items_under [] what) (rows_of old.rows) (rows_of new.rows) more gave)

pub settled_more : (place : Place) (items : List Node) (inside new last : Search) (c : Component) (found : ℕ)
    (pair : EnvPair) (old more : Pairs) → PairOf c found pair → AreSettled place items new old
    → HasOneMore old more c.specified found → WalksEnv place inside new (Ok tt) items pair → Continues inside new
    → Leaves new last → AreSettled place items last more
settled_more place items inside new last c found pair old more is all one w k l =
    settled_same place items new last more l.bound l.rows (record {
      each = one_more (IsSettled place items new.bound.names (rows_of new.rows)) old more c.specified found one all.each
          (subst (λ (p : EnvPair). IsSettled place items new.bound.names (rows_of new.rows) p.specified.place p.found.place)
          is (settled place items inside new pair.specified.place pair.found.place w k));
    })

-- a structure that was found before for what is specified
pub structure_settled : (place : Place) (items : List Node) (search : Search) (c : Component) (found : ℕ) (pairs : Pairs)
    (b : Bool) → c.found ≡ Some found → AreSettled place items search pairs → b ≡ has_pair pairs c.specified found
    → b ≡ true
    → Realises place search search (Ok tt) (λ s root. FindsStructure items search.path s root c)
    (structure_of_component items search.path c)
structure_settled place items search c found pairs b e all is h inner s root home k =
    let env : Env = known_env items s found in
    let what : Env = as_env (at items c.specified) in
    let names : List TyName = search.bound.names in
    let rows : Rows = rows_of search.rows in
    let inside : List (List ℕ) = search.path ++ c.name ∷ [] in
    let led = is_led items search.path c found s root e k in
    there inner place s root names inside (items_under inside what) rows env led.0
    ∙ gives_by (realising_all inner (at_of place) s root names (items_under inside what) rows) rows
    (realises_from inner place s root env names inside what rows led.1
    ∙ ap given (subst (λ z. realising_all inner (at_of place) s env names (items_under [] what) z ≡ gives z)
    (append-nil rows) (all.each c.specified found (sym is ∙ h) inner s [] home)))
