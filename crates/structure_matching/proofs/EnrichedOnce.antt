-- Pairs that went well in the walk over what is specified.
use Rattle.std.proofs.Common.{◌≡◌, ℕ, sym, ap, ◌∙◌, subst, List, [], ◌∷◌, ◌++◌, Some, Bool, true, false}
use Rattle.std.specs.Prelude.{Ok}
use Rattle.std.specs.Option.{option_map}
use Rattle.cm_base.specs.declared.diag.Place.{Place}
use Rattle.semantic_objects.specs.Environments.{Env, structures}
use Rattle.unification.specs.Types.{State}
use Rattle.sml_modules.specs.Items.{Item as Node, at, as_env}
use Rattle.static_semantics.specs.Inferring.{found_at}
use Rattle.module_semantics.specs.Matching.{items_under, enriching_all}
use Rattle.core_scopes.specs.Paths.{led_on}
use Rattle.matched_pairs.specs.declared.pairs.Pairs.{Pairs}
use Rattle.matched_pairs.specs.Pairs.{has_pair, HasOneMore}
use Rattle.matched_pairs.proofs.Adding.{one_more, none_of}
use Rattle.structure_matching.specs.declared.parts.Component.{Component}
use Rattle.structure_matching.specs.declared.parts.EnvPair.{EnvPair}
use Rattle.structure_matching.specs.Searching.{at_of, FindsStructure, known_env, structure_of_component}
use Rattle.structure_matching.specs.Enriching.{Enriches, Meets, AllMeet}
use Rattle.structure_matching.proofs.Behind.{given, gives_by, enriches_from, around, led_around}
use Rattle.structure_matching.proofs.Leading.{led_to}
use Rattle.structure_matching.proofs.RealisingEnvs.{IsEntered, PairOf}
use Rattle.structure_matching.proofs.EnrichingEnvs.{there}

pub none_met : (place : Place) (s : State) (items : List Node) (pairs : Pairs) → ((p q : ℕ) → has_pair pairs p q ≡ false)
    → AllMeet place s items pairs
none_met place s items pairs none = record { each = none_of (Meets place s items) pairs none }

-- a walk that went well at one path
pub met : (place : Place) (s : State) (items : List Node) (path : List (List ℕ)) (specified found : ℕ)
    → Enriches place s (Ok tt) (IsEntered items path found s) (items_under path (as_env (at items specified)))
    → Meets place s items specified found
met place s items path specified found w inner home =
    let env : Env = known_env items s found in
    let root : Env = around path env in
    let led : led_on path root ≡ Some env = led_around path env in
    gives_by (enriching_all inner (at_of place) s env (items_under [] (as_env (at items specified)))) tt
    (sym (enriches_from inner place s root env path (as_env (at items specified)) led)
    ∙ ap given (w inner root home led))

pub met_more : (place : Place) (s : State) (items : List Node) (path : List (List ℕ)) (c : Component) (found : ℕ)
    (pair : EnvPair) (old new : Pairs) → PairOf c found pair → AllMeet place s items old
    → HasOneMore old new c.specified found
    → Enriches place s (Ok tt) (IsEntered items path pair.found.place s)
    (items_under path (as_env (at items pair.specified.place)))
    → AllMeet place s items new
met_more place s items path c found pair old new is all more w = record {
  each = one_more (Meets place s items) old new c.specified found more all.each
      (subst (λ (p : EnvPair). Meets place s items p.specified.place p.found.place) is
      (met place s items path pair.specified.place pair.found.place w));
}

-- a structure that was found before for what is specified
pub structure_met : (place : Place) (s : State) (items : List Node) (path : List (List ℕ)) (c : Component) (found : ℕ)
    (pairs : Pairs) (b : Bool) → c.found ≡ Some found → AllMeet place s items pairs
    → b ≡ has_pair pairs c.specified found → b ≡ true
    → Enriches place s (Ok tt) (λ root. FindsStructure items path s root c) (structure_of_component items path c)
structure_met place s items path c found pairs b e all is h inner root home k =
    let env : Env = known_env items s found in
    let inside : List (List ℕ) = path ++ c.name ∷ [] in
    let there_is : found_at structures inside root ≡ Some env = k ∙ ap (option_map (known_env items s)) e in
    there inner place s root inside (items_under inside (as_env (at items c.specified))) env there_is
    ∙ gives_by (enriching_all inner (at_of place) s root (items_under inside (as_env (at items c.specified)))) tt
    (enriches_from inner place s root env inside (as_env (at items c.specified)) (led_to path c.name root ∙ there_is)
    ∙ ap given (all.each c.specified found (sym is ∙ h) inner home))
