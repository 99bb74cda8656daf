-- What the tables of a group find is what its lists say.
use Rattle.std.proofs.Common.{◌≡◌, ◌∙◌, sym, ap, ap₂, refl, ℕ, ◌==◌, Bool, true, false, not, ◌&&◌, ◌||◌, cond, List, [], ◌∷◌, ◌++◌, map, Option, Some, None, eqb-true}
use Rattle.std.proofs.Math.Path.{fun_ext}
use Rattle.std.specs.Prelude.{filter, find}
use Rattle.std.specs.List.{list_all}
use Rattle.std.proofs.lemmas.List.Folds.{list_all-append}
use Rattle.indexmap.specs.IndexMap.{get}
use Rattle.cm_base.specs.declared.record.ModName.{ModName}
use Rattle.cm_base.specs.declared.record.Skeleton.{Skeleton}
use Rattle.cm_base.specs.declared.record.Spot.{Spot}
use Rattle.cm_conditions.specs.Tables.{same_name}
use Rattle.cm_conditions.specs.Values.{same_module, has_module}
use Rattle.cm_description.specs.declared.loaded.Export.{Export}
use Rattle.cm_description.specs.declared.loaded.Project.{Project}
use Rattle.visibility.proofs.ModuleNames.{both, module_is}
use Rattle.visibility.proofs.Defining.{first_fits}
use Rattle.visibility.specs.Exports.{spots_in, defined_spots, is_first, clash_among}
use Rattle.visibility.specs.Projects.{skeleton_of, defined_by, members, sources}
use Rattle.visibility.specs.Providers.{definers, definers_among, other_definers, found_in, or_else, units_under}
use Rattle.visibility.specs.Tables.{fits, first_of, defining, defining_else, at_name, shown_among, FindsFirst, AreNames, behind_by, provider_by, behind_in, beneath_by}
use Rattle.visibility.specs.declared.found.Found.{Found}
use Rattle.visibility.specs.declared.found.Found.TheVariants as found
use Rattle.visibility.specs.declared.group_names.GroupNames.{GroupNames}

-- ---- no name is defined twice

none_by : {X : Type 0} (p : X → Bool) (x : X) (xs : List X) (b : Bool) → p x ≡ b
    → (find p xs ≡ None → list_all (λ y. not (p y)) xs ≡ true) → cond b (Some x) (find p xs) ≡ None
    → (not b && list_all (λ y. not (p y)) xs) ≡ true
none_by p x xs true is rest h = cc
none_by p x xs false is rest h = rest h

-- where none is found, none passes
all_fail : {X : Type 0} (p : X → Bool) (xs : List X) → find p xs ≡ None → list_all (λ y. not (p y)) xs ≡ true
all_fail p [] h = refl
all_fail p (x ∷ xs) h = none_by p x xs (p x) refl (all_fail p xs) h

twice : (b : Bool) → not (not b) ≡ b
twice true = refl
twice false = refl

-- one of the spots of a unit has the name, and fits
spot_by : (first : ModName → Option ℕ) (u : ℕ) (spot : Spot) (name : ModName) (has fit rest : Bool)
    → same_module spot.name name ≡ has → fits (first spot.name) u ≡ fit
    → (rest ≡ true → fits (first name) u ≡ true) → fit ≡ true → (has || rest) ≡ true → fits (first name) u ≡ true
spot_by first u spot name true fit rest same is more ok h =
    ap (λ n. fits (first n) u) (sym (module_is spot.name name same)) ∙ is ∙ ok
spot_by first u spot name false fit rest same is more ok h = more h

spots_fit : (first : ModName → Option ℕ) (u : ℕ) (spots : List Spot) (name : ModName)
    → list_all (λ (at : ℕ × Spot). fits (first at.1.name) at.0) (spots_in u spots) ≡ true
    → has_module (map (λ (s : Spot). s.name) spots) name ≡ true → fits (first name) u ≡ true
spots_fit first u [] name all h = cc
spots_fit first u (spot ∷ spots) name all h =
    let parts = both (fits (first spot.name) u)
    (list_all (λ (at : ℕ × Spot). fits (first at.1.name) at.0) (spots_in u spots)) all in
    spot_by first u spot name (same_module spot.name name) (fits (first spot.name) u)
    (has_module (map (λ (s : Spot). s.name) spots) name) refl refl (spots_fit first u spots name parts.1) parts.0 h

kept_by : (o : Option ℕ) (u : ℕ) (us : List ℕ) (b : Bool) → (b ≡ true → fits o u ≡ true)
    → list_all (fits o) us ≡ true → list_all (fits o) (cond b (u ∷ us) us) ≡ true
kept_by o u us true here rest = ap₂ (λ s t. s && t) (here refl) rest
kept_by o u us false here rest = rest

-- each unit that defines the name fits
definers_fit : (first : ModName → Option ℕ) (skeletons : List Skeleton) (units : List ℕ) (name : ModName)
    → list_all (λ (at : ℕ × Spot). fits (first at.1.name) at.0) (defined_spots skeletons units) ≡ true
    → list_all (fits (first name)) (definers_among skeletons units name) ≡ true
definers_fit first skeletons [] name all = refl
definers_fit first skeletons (u ∷ units) name all =
    let spots = (skeleton_of skeletons u).defined in
    let test = λ (at : ℕ × Spot). fits (first at.1.name) at.0 in
    let parts = both (list_all test (spots_in u spots)) (list_all test (defined_spots skeletons units))
    (sym (list_all-append test (spots_in u spots) (defined_spots skeletons units)) ∙ all) in
    kept_by (first name) u (definers_among skeletons units name) (has_module (defined_by skeletons u) name)
    (spots_fit first u spots name parts.0) (definers_fit first skeletons units name parts.1)

-- .. so that all definers of a name are its first one
pub all_first : (skeletons : List Skeleton) (units : List ℕ) (name : ModName) → clash_among skeletons units ≡ None
    → list_all (fits (first_of (definers_among skeletons units name))) (definers_among skeletons units name) ≡ true
all_first skeletons units name none =
    let clash = λ (at : ℕ × Spot). not (is_first (definers_among skeletons units at.1.name) at.0) in
    let spots = defined_spots skeletons units in
    definers_fit (λ n. first_of (definers_among skeletons units n)) skeletons units name
    (ap (λ p. list_all p spots) (fun_ext (λ (at : ℕ × Spot).
    sym (twice (is_first (definers_among skeletons units at.1.name) at.0)
    ∙ first_fits (definers_among skeletons units at.1.name) at.0)))
    ∙ all_fail clash spots none)

-- ---- the definer

-- what is found among units that are all the first
found_first : (us : List ℕ) → list_all (fits (first_of us)) us ≡ true → found_in us ≡ defining (first_of us)
found_first [] all = refl
found_first (v ∷ more) all =
    ap (λ b. cond b (found.One v) found.Several) (both (v == v) (list_all (λ w. v == w) more) all).1

kept_all : (p : ℕ → Bool) (v : ℕ) (us : List ℕ) → list_all (λ w. v == w) us ≡ true → p v ≡ true → filter p us ≡ us
kept_all p v [] all is = refl
kept_all p v (u ∷ us) all is =
    let parts = both (v == u) (list_all (λ w. v == w) us) all in
    ap (λ b. cond b (u ∷ filter p us) (filter p us)) (sym (ap p (eqb-true v u parts.0)) ∙ is)
    ∙ ap (λ l. u ∷ l) (kept_all p v us parts.1 is)

kept_none : (p : ℕ → Bool) (v : ℕ) (us : List ℕ) → list_all (λ w. v == w) us ≡ true → p v ≡ false → filter p us ≡ []
kept_none p v [] all is = refl
kept_none p v (u ∷ us) all is =
    let parts = both (v == u) (list_all (λ w. v == w) us) all in
    ap (λ b. cond b (u ∷ filter p us) (filter p us)) (sym (ap p (eqb-true v u parts.0)) ∙ is)
    ∙ kept_none p v us parts.1 is

others_by : (u v : ℕ) (more : List ℕ) (b : Bool) → (v == u) ≡ b → list_all (λ w. v == w) more ≡ true
    → found_in (cond (not b) (v ∷ filter (λ w. not (w == u)) more) (filter (λ w. not (w == u)) more))
    ≡ cond b found.Missing (found.One v)
others_by u v more true is all = ap found_in (kept_none (λ w. not (w == u)) v more all (ap not is))
others_by u v more false is all =
    ap (λ l. found_in (v ∷ l)) (kept_all (λ w. not (w == u)) v more all (ap not is))
    ∙ ap (λ b. cond b (found.One v) found.Several) all

-- what is found among the others of units that are all the first
others_first : (u : ℕ) (us : List ℕ) → list_all (fits (first_of us)) us ≡ true
    → found_in (filter (λ w. not (w == u)) us) ≡ defining_else u (first_of us)
others_first u [] all = refl
others_first u (v ∷ more) all =
    others_by u v more (v == u) refl (both (v == v) (list_all (λ w. v == w) more) all).1

-- ---- the names of a group

-- what is found by the first definer is what all definers are
definer_is : (names : GroupNames) (project : Project) (skeletons : List Skeleton) (g : ℕ)
    → FindsFirst (get same_name names.definers) skeletons (sources project g) → (name : ModName)
    → defining (get same_name names.definers name) ≡ found_in (definers project skeletons g name)
definer_is names project skeletons g is name =
    ap defining (is.first name)
    ∙ sym (found_first (definers project skeletons g name) (all_first skeletons (sources project g) name is.apart))

-- what stands behind a name
pub behind_is : (names : GroupNames) (project : Project) (skeletons : List Skeleton) (places : ℕ → Option ℕ)
    (below : List (List Export)) (g : ℕ) → AreNames names project skeletons places below g → (name : ModName)
    → behind_by names name ≡ behind_in project skeletons g (shown_among places below (members project g)) name
behind_is names project skeletons places below g are name =
    ap₂ or_else (definer_is names project skeletons g are.definers name) (are.members name)

pub beneath_is : (names : GroupNames) (project : Project) (skeletons : List Skeleton) (places : ℕ → Option ℕ)
    (below : List (List Export)) (g : ℕ) (exports : List Export) → AreNames names project skeletons places below g
    → (name : ModName) → beneath_by names exports name ≡ behind_in project skeletons g exports name
beneath_is names project skeletons places below g exports are name =
    ap (λ f. or_else f (found_in (units_under exports name))) (definer_is names project skeletons g are.definers name)

-- what provides a name for a source of the group
pub provider_is : (names : GroupNames) (project : Project) (skeletons : List Skeleton) (places : ℕ → Option ℕ)
    (below : List (List Export)) (g u : ℕ) → AreNames names project skeletons places below g → (name : ModName)
    → provider_by names u name
    ≡ or_else (found_in (other_definers project skeletons g u name))
    (found_in (units_under (shown_among places below (members project g)) name))
provider_is names project skeletons places below g u are name =
    ap₂ or_else
    (ap (defining_else u) (are.definers.first name)
    ∙ sym (others_first u (definers project skeletons g name)
    (all_first skeletons (sources project g) name are.definers.apart)))
    (are.members name)
