-- The walk over what is specified, item by item.
use Rattle.std.proofs.Common.{◌≡◌, ℕ, refl, sym, ap, ap₂, ◌∙◌, subst, List, [], ◌∷◌, ◌++◌, Option, Some, None, Bool, true, false, not, eqb}
use Rattle.std.proofs.lemmas.Bool.{eq-eqb}
use Rattle.std.specs.Prelude.{Ok, Err}
use Rattle.std.specs.Option.{option_map}
use Rattle.std.specs.List.{join_with_byte}
use Rattle.cm_base.specs.declared.diag.Place.{Place}
use Rattle.cm_base.specs.declared.fault.Fault.{Fault}
use Rattle.cm_base.specs.declared.fault.Fault.TheVariants as fault
use Rattle.semantic_objects.specs.declared.entry.TypeStr.{TypeStr}
use Rattle.semantic_objects.specs.declared.entry.ValueEntry.{ValueEntry}
use Rattle.semantic_objects.specs.Environments.{Env, types}
use Rattle.unification.specs.Types.{State}
use Rattle.unification.proofs.Walking.{or_false_left}
use Rattle.env_parts.specs.declared.facts.Facts.{Facts}
use Rattle.env_parts.specs.Types.{holds_free}
use Rattle.sml_modules.specs.Items.{Item as Node, at, as_type, as_value, item_facts}
use Rattle.static_semantics.specs.Inferring.{Scope, Answer, ◌>>=◌, gives, diag_at, refuses_where, found_at}
use Rattle.static_semantics.specs.Holding.{AllItems}
use Rattle.static_semantics.specs.EnvironmentsPut.{put_value}
use Rattle.module_semantics.specs.Matching.{Item, present, misfits_where, fits_type, fits_value, enriching_item, enriching_all}
use Rattle.structure_matching.specs.declared.parts.Component.{Component}
use Rattle.structure_matching.specs.Searching.{at_of, known_type, of_components, FindsType, type_of_component}
use Rattle.structure_matching.specs.Enriching.{Enriches, FindsValue, known_value, value_of_component}
use Rattle.structure_matching.proofs.Itself.{value_fits_itself}
use Rattle.structure_matching.proofs.RealisingSteps.{goes_on, stops, type_known}

-- ---- items one after the other

walk_then : (m : Answer (Unit {0})) (f : Unit {0} → Answer (Unit {0})) (h : Unit {0} → Answer (Unit {0}))
    → ((m >>= f) >>= h) ≡ (m >>= λ x. f x >>= h)
walk_then None f h = refl
walk_then (Some (Err d)) f h = refl
walk_then (Some (Ok x)) f h = refl

walk_same : (m : Answer (Unit {0})) (f h : Unit {0} → Answer (Unit {0})) → f tt ≡ h tt → (m >>= f) ≡ (m >>= h)
walk_same None f h e = refl
walk_same (Some (Err d)) f h e = refl
walk_same (Some (Ok x)) f h e = e

pub last_item : (inner : Scope) (place : Place) (s : State) (root : Env) (m : Answer (Unit {0}))
    → (m >>= λ u. enriching_all inner (at_of place) s root []) ≡ m
last_item inner place s root None = refl
last_item inner place s root (Some (Err d)) = refl
last_item inner place s root (Some (Ok x)) = refl

pub enriching_all-append : (inner : Scope) (place : Place) (s : State) (root : Env) (xs ys : List Item)
    → enriching_all inner (at_of place) s root (xs ++ ys)
    ≡ (enriching_all inner (at_of place) s root xs >>= λ u. enriching_all inner (at_of place) s root ys)
enriching_all-append inner place s root [] ys = refl
enriching_all-append inner place s root (x ∷ xs) ys =
    walk_same (enriching_item inner (at_of place) s root x) (λ u. enriching_all inner (at_of place) s root (xs ++ ys))
    (λ u. enriching_all inner (at_of place) s root xs >>= λ v. enriching_all inner (at_of place) s root ys)
    (enriching_all-append inner place s root xs ys)
    ∙ sym (walk_then (enriching_item inner (at_of place) s root x) (λ u. enriching_all inner (at_of place) s root xs)
    (λ u. enriching_all inner (at_of place) s root ys))

-- ---- a walk over components

pub record EnrichedTo (place : Place) (s : State) (Finds : Env → Component → Type 0)
    (items_of : Component → List Item) (all rest : List Component) : Type 0 where
  pub finds : (root : Env) → AllItems (Finds root) all → AllItems (Finds root) rest
  pub whole : (inner : Scope) (root : Env) → inner.home ≡ place.file → AllItems (Finds root) all
      → enriching_all inner (at_of place) s root (of_components items_of all)
      ≡ enriching_all inner (at_of place) s root (of_components items_of rest)

after : (place : Place) (s : State) (Finds : Env → Component → Type 0) (items_of : Component → List Item)
    (all rest more : List Component) (c : Component) → EnrichedTo place s Finds items_of all rest → rest ≡ c ∷ more
    → (root : Env) → AllItems (Finds root) all → Finds root c × AllItems (Finds root) more
after place s Finds items_of all rest more c r at root f = subst (AllItems (Finds root)) at (r.finds root f)

step : (place : Place) (s : State) (Finds : Env → Component → Type 0) (items_of : Component → List Item)
    (all rest more : List Component) (c : Component) → EnrichedTo place s Finds items_of all rest → rest ≡ c ∷ more
    → (inner : Scope) (root : Env) → inner.home ≡ place.file → AllItems (Finds root) all
    → enriching_all inner (at_of place) s root (of_components items_of all)
    ≡ (enriching_all inner (at_of place) s root (items_of c)
    >>= λ u. enriching_all inner (at_of place) s root (of_components items_of more))
step place s Finds items_of all rest more c r at inner root home f =
    r.whole inner root home f
    ∙ ap (λ cs. enriching_all inner (at_of place) s root (of_components items_of cs)) at
    ∙ enriching_all-append inner place s root (items_of c) (of_components items_of more)

pub enriched_one : (place : Place) (s : State) (Finds : Env → Component → Type 0) (items_of : Component → List Item)
    (all rest more : List Component) (c : Component) → EnrichedTo place s Finds items_of all rest → rest ≡ c ∷ more
    → Enriches place s (Ok tt) (λ root. Finds root c) (items_of c) → EnrichedTo place s Finds items_of all more
enriched_one place s Finds items_of all rest more c r at h = record {
  finds = λ root f. (after place s Finds items_of all rest more c r at root f).1;
  whole = λ inner root home f.
      step place s Finds items_of all rest more c r at inner root home f
      ∙ goes_on (enriching_all inner (at_of place) s root (items_of c)) tt
      (λ u. enriching_all inner (at_of place) s root (of_components items_of more))
      (h inner root home (after place s Finds items_of all rest more c r at root f).0);
}

pub enriched_stop : (place : Place) (s : State) (Finds : Env → Component → Type 0) (items_of : Component → List Item)
    (all rest more : List Component) (c : Component) (f : Fault) → EnrichedTo place s Finds items_of all rest
    → rest ≡ c ∷ more → Enriches place s (Err f) (λ root. Finds root c) (items_of c)
    → Enriches place s (Err f) (λ root. AllItems (Finds root) all) (of_components items_of all)
enriched_stop place s Finds items_of all rest more c (fault.Diag d) r at h inner root home f =
    step place s Finds items_of all rest more c r at inner root home f
    ∙ stops (enriching_all inner (at_of place) s root (items_of c)) d
    (λ u. enriching_all inner (at_of place) s root (of_components items_of more))
    (h inner root home (after place s Finds items_of all rest more c r at root f).0)
enriched_stop place s Finds items_of all rest more c fault.NoMemory r at h inner root home f = tt

-- ---- a type

-- one that is found is this one
type_found : (inner : Scope) (place : Place) (s : State) (root : Env) (path : List (List ℕ)) (item : Node)
    (want found : TypeStr) (o : Option TypeStr) (a b : Bool) → item ≡ Node.TypeItem want → o ≡ Some found
    → a ≡ not (eqb want.function.arity found.function.arity) → b ≡ not (fits_type want found)
    → found_at types path root ≡ o
    → enriching_all inner (at_of place) s root (Item.TypeItem path (as_type item) ∷ [])
    ≡ (refuses_where a 35 inner (at_of place) >>= λ u. misfits_where b inner (at_of place) path)
type_found inner place s root path item want found o a b e f g h k =
    last_item inner place s root (enriching_item inner (at_of place) s root (Item.TypeItem path (as_type item)))
    ∙ ap₂ (λ (x : Node) (z : Option TypeStr). present inner (at_of place) path z
    >>= λ y. refuses_where (not (eqb (as_type x).function.arity y.function.arity)) 35 inner (at_of place)
    >>= λ u. misfits_where (not (fits_type (as_type x) y)) inner (at_of place) path) e (k ∙ f)
    ∙ ap₂ (λ x y. refuses_where x 35 inner (at_of place) >>= λ u. misfits_where y inner (at_of place) path)
    (sym g) (sym h)

-- what is known of a component that is found
abbrev pub path_of : List (List ℕ) → Component → List (List ℕ)
path_of path c = path ++ c.name ∷ []

known_found : (items : List Node) (path : List (List ℕ)) (s : State) (root : Env) (c : Component) (p : ℕ) (found : TypeStr)
    (facts : Facts) → c.found ≡ Some p → at items p ≡ Node.TypeItem found → facts ≡ item_facts (at items p)
    → facts.has_free ≡ false → FindsType items path s root c → found_at types (path_of path c) root ≡ Some found
known_found items path s root c p found facts e f g h k =
    k ∙ ap (option_map (known_type items s)) e ∙ ap Some (type_known items s p found facts f g h)

pub type_misfit : (inner : Scope) (place : Place) (s : State) (root : Env) (items : List Node) (path : List (List ℕ))
    (c : Component) (p : ℕ) (want found : TypeStr) (facts : Facts) (b : Bool)
    → at items c.specified ≡ Node.TypeItem want
    → c.found ≡ Some p → at items p ≡ Node.TypeItem found → facts ≡ item_facts (at items p) → facts.has_free ≡ false
    → found.function.arity ≡ want.function.arity → b ≡ fits_type want found → b ≡ false
    → FindsType items path s root c
    → enriching_all inner (at_of place) s root (type_of_component items path c)
    ≡ Some (Err (diag_at 37 inner (at_of place) (join_with_byte 46 (path_of path c) ∷ [])))
type_misfit inner place s root items path c p want found facts b e f g h k a i j finds =
    type_found inner place s root (path_of path c) (at items c.specified) want found (Some found) false
    true e refl (sym (ap not (eq-eqb want.function.arity found.function.arity (sym a))))
    (sym (ap not (sym i ∙ j))) (known_found items path s root c p found facts f g h k finds)

pub type_fits : (inner : Scope) (place : Place) (s : State) (root : Env) (items : List Node) (path : List (List ℕ))
    (c : Component) (p : ℕ) (want found : TypeStr) (facts : Facts) (b : Bool)
    → at items c.specified ≡ Node.TypeItem want
    → c.found ≡ Some p → at items p ≡ Node.TypeItem found → facts ≡ item_facts (at items p) → facts.has_free ≡ false
    → found.function.arity ≡ want.function.arity → b ≡ fits_type want found → b ≡ true
    → FindsType items path s root c
    → enriching_all inner (at_of place) s root (type_of_component items path c) ≡ gives tt
type_fits inner place s root items path c p want found facts b e f g h k a i j finds =
    type_found inner place s root (path_of path c) (at items c.specified) want found (Some found) false
    false e refl (sym (ap not (eq-eqb want.function.arity found.function.arity (sym a))))
    (sym (ap not (sym i ∙ j))) (known_found items path s root c p found facts f g h k finds)

-- ---- a value

-- one that is what is specified
pub value_itself : (inner : Scope) (place : Place) (s : State) (root : Env) (items : List Node) (path : List (List ℕ))
    (c : Component) (p : ℕ) (want : ValueEntry) (facts : Facts) → at items c.specified ≡ Node.ValueItem want
    → c.found ≡ Some p → c.specified ≡ p → facts ≡ item_facts (at items c.specified) → facts.has_free ≡ false
    → FindsValue items path s root c
    → enriching_all inner (at_of place) s root (value_of_component items path c) ≡ gives tt
value_itself inner place s root items path c p want facts e f same g h finds =
    let closed : holds_free want.scheme.body ≡ false = or_false_left (holds_free want.scheme.body) false
    (sym (ap (λ (z : Facts). z.has_free) (g ∙ ap item_facts e)) ∙ h) in
    let there : at items p ≡ Node.ValueItem want = ap (at items) (sym same) ∙ e in
    last_item inner place s root (enriching_item inner (at_of place) s root
    (Item.ValueItem (path_of path c) (as_value (at items c.specified))))
    ∙ ap (λ o. present inner (at_of place) (path_of path c) o
    >>= λ y. misfits_where (not (fits_value s (as_value (at items c.specified)) y)) inner (at_of place) (path_of path c))
    (finds ∙ ap (option_map (known_value items s)) f)
    ∙ ap₂ (λ (x y : Node). misfits_where (not (fits_value s (as_value x) (put_value s.stands (as_value y)))) inner
    (at_of place) (path_of path c)) e there
    ∙ ap (λ b. misfits_where (not b) inner (at_of place) (path_of path c)) (value_fits_itself s want closed)
