-- Each provider that names have is a unit of the project.
use Rattle.std.proofs.Common.{arith, suc, ◌+◌, ◌≡◌, ◌∙◌, sym, ap, refl, subst, ℕ, ◌==◌, ◌<◌, Bool, true, false, not, ◌&&◌, ◌||◌, cond, List, [], ◌∷◌, ◌++◌, length, map, slice_get, Option, Some, None, unwrap_or, Result, Ok, Err}
use Rattle.std.specs.Prelude.{All, filter, flat_map, slice_set}
use Rattle.std.specs.List.{list_all, position_from}
use Rattle.std.specs.Option.{option_map_or}
use Rattle.std.proofs.lemmas.List.{length-map, length-set}
use Rattle.std.proofs.lemmas.List.Elements.{All-nil, All-push, All-append, All-map, All-filter, All-set}
use Rattle.std.proofs.lemmas.Option.{get_or_from_slice_get, slice_get_within}
use Rattle.cm_base.specs.Diags.{◌>>=◌}
use Rattle.cm_base.specs.Places.{item_at}
use Rattle.cm_base.specs.declared.diag.Diag.{Diag}
use Rattle.cm_base.specs.declared.diag.Place.{Place}
use Rattle.cm_base.specs.declared.record.Def.{Def}
use Rattle.cm_base.specs.declared.record.ModName.{ModName}
use Rattle.cm_base.specs.declared.record.Need.{Need}
use Rattle.cm_base.specs.declared.record.Skeleton.{Skeleton}
use Rattle.cm_base.specs.declared.record.Spot.{Spot}
use Rattle.cm_conditions.specs.Values.{same_module, has_module}
use Rattle.cm_description.specs.Answers.{is_empty}
use Rattle.cm_description.specs.WellFormed.{AreBelow, IsGroupWithin, IsWellFormed}
use Rattle.cm_description.specs.declared.description.Entry.{Entry}
use Rattle.cm_description.specs.declared.loaded.Export.{Export}
use Rattle.cm_description.specs.declared.loaded.Group.{Group}
use Rattle.cm_description.specs.declared.loaded.Project.{Project}
use Rattle.cm_description.specs.declared.loaded.Unit.{Unit as ProjectUnit}
use Rattle.cm_description.specs.declared.loaded.Wanted.{Wanted}
use Rattle.visibility.specs.BuiltIn.{is_built_in}
use Rattle.visibility.specs.Choosing.{chosen_items}
use Rattle.visibility.specs.Exports.{behind_name, clash_diag, clash_in, default_exports, default_names, each_once, entry_export, entry_exports, export_by, exports_of, group_exports, in_name_order, names_there, recorded_or, same_export, shown_by, shown_list, subgroups, unless_clash}
use Rattle.visibility.specs.Imports.{collected, import_by, imports_in, sees_basis}
use Rattle.visibility.specs.Naming.{importing, names, names_of, no_imports, with_groups, with_imports}
use Rattle.visibility.specs.Projects.{defined_by, file_place, members, name_refused, skeleton_of, sources, spot_place, unit_file}
use Rattle.visibility.specs.Providers.{definers, definers_among, exported_under, exports_among, exports_at, found_behind, found_in, or_else, other_definers, provider_in, units_under}
use Rattle.visibility.specs.declared.found.Found.{Found}
use Rattle.visibility.specs.declared.found.Found.TheVariants as found
use Rattle.visibility.specs.declared.names.Names.{Names}
use Rattle.project_planning.specs.Buildable.{AreProvided}

-- ---- lists

-- what holds of each item holds of the one at a place
item_of : {A : Type 0} (P : A → Type 0) (xs : List A) (i : ℕ) (x : A) → All P xs → slice_get xs i ≡ Some x → P x
item_of P xs i x all is =
    subst P (get_or_from_slice_get xs i x x is) (all i x (slice_get_within xs i x is))

abbrev AllBelow : ℕ → List ℕ → Type 0
AllBelow n units = All (λ u. u < n) units

abbrev ExportsBelow : ℕ → List Export → Type 0
ExportsBelow n exports = All (λ (e : Export). e.unit < n) exports

abbrev WantedBelow : ℕ → List Wanted → Type 0
WantedBelow n wanted = All (λ (w : Wanted). w.provider < n) wanted

-- ---- what is found

-- the one unit that is found is below this number
abbrev FoundBelow : ℕ → Found → Type 0
FoundBelow n found.Missing = Unit {0}
FoundBelow n (found.One v) = v < n
FoundBelow n found.Several = Unit {0}

one_or_several : (n v : ℕ) (b : Bool) → v < n → FoundBelow n (cond b (found.One v) found.Several)
one_or_several n v true below = below
one_or_several n v false below = tt

found_below : (n : ℕ) (units : List ℕ) → AllBelow n units → FoundBelow n (found_in units)
found_below n [] all = tt
found_below n (v ∷ more) all =
    one_or_several n v (list_all (λ w. v == w) more) (all 0 v (omega arith))

or_else_below : (n : ℕ) (a b : Found) → FoundBelow n a → FoundBelow n b → FoundBelow n (or_else a b)
or_else_below n found.Missing b first other = other
or_else_below n (found.One v) b first other = first
or_else_below n found.Several b first other = tt

-- ---- the units of exports

under_below : (n : ℕ) (exports : List Export) (name : ModName) → ExportsBelow n exports
    → AllBelow n (units_under exports name)
under_below n exports name all =
    All-map (λ u. u < n) (λ (e : Export). e.unit) (filter (λ (e : Export). same_module e.name name) exports)
    (All-filter (λ (e : Export). same_module e.name name) (λ (e : Export). e.unit < n) exports all)

list_or_none : (n : ℕ) (below : List (List Export)) (place : ℕ) (o : Option (List Export))
    → All (ExportsBelow n) below → slice_get below place ≡ o → ExportsBelow n (unwrap_or o [])
list_or_none n below place None all is = All-nil (λ (e : Export). e.unit < n)
list_or_none n below place (Some exports) all is = item_of (ExportsBelow n) below place exports all is

at_place : (n : ℕ) (below : List (List Export)) (o : Option ℕ) → All (ExportsBelow n) below
    → ExportsBelow n (unwrap_or (item_at below o) [])
at_place n below None all = All-nil (λ (e : Export). e.unit < n)
at_place n below (Some place) all = list_or_none n below place (slice_get below place) all refl

among_below : (n : ℕ) (project : Project) (below : List (List Export)) (among : List ℕ) → All (ExportsBelow n) below
    → ExportsBelow n (exports_among project below among)
among_below n project below [] all = All-nil (λ (e : Export). e.unit < n)
among_below n project below (m ∷ more) all =
    All-append (λ (e : Export). e.unit < n) (exports_at project below m) (exports_among project below more)
    (at_place n below (position_from (λ g. g == m) 0 project.finished) all)
    (among_below n project below more all)

-- ---- the sources of a group

group_sources : (p : Project) (g : ℕ) (o : Option Group) → IsWellFormed p → slice_get p.groups g ≡ o
    → AllBelow (length p.units) (option_map_or (λ (group : Group). group.units) o [])
group_sources p g None formed is = All-nil (λ u. u < length p.units)
group_sources p g (Some group) formed is =
    (item_of (IsGroupWithin (length p.groups) (length p.units)) p.groups g group formed.groups is).units_below

sources_below : (p : Project) (g : ℕ) → IsWellFormed p → AllBelow (length p.units) (sources p g)
sources_below p g formed = group_sources p g (slice_get p.groups g) formed refl

definers_below : (p : Project) (skeletons : List Skeleton) (g : ℕ) (name : ModName) → IsWellFormed p
    → AllBelow (length p.units) (definers p skeletons g name)
definers_below p skeletons g name formed =
    All-filter (λ u. has_module (defined_by skeletons u) name) (λ u. u < length p.units) (sources p g)
    (sources_below p g formed)

-- what is found behind a name, of sources that are units
behind_below : (n : ℕ) (p : Project) (below : List (List Export)) (defining among : List ℕ) (name : ModName)
    → AllBelow n defining → All (ExportsBelow n) below
    → FoundBelow n (found_behind p below defining among name)
behind_below n p below defining among name first all =
    or_else_below n (found_in defining) (found_in (exported_under p below among name)) (found_below n defining first)
    (found_below n (exported_under p below among name)
    (under_below n (exports_among p below among) name (among_below n p below among all)))

-- ---- steps

-- what follows on a step was reached by it
pub then_step : {A B : Type 0} (r : Result A Diag) (next : A → Result B Diag) (last : B) (P : Type 0)
    → ((x : A) → r ≡ Ok x → next x ≡ Ok last → P) → (r >>= next) ≡ Ok last → P
then_step (Ok x) next last P each is = each x refl is
then_step (Err diag) next last P each is = cc

-- what holds of all that each step gives holds of all that they give
collected_step : {B : Type 0} (P : B → Type 0) (a b : Result (List B) Diag)
    → ((list : List B) → a ≡ Ok list → All P list) → ((list : List B) → b ≡ Ok list → All P list)
    → (list : List B) → (a >>= (λ here. b >>= (λ more. Ok (here ++ more)))) ≡ Ok list → All P list
collected_step P (Ok here) (Ok more) first rest list is =
    let same : here ++ more ≡ list = cc in
    subst (All P) same (All-append P here more (first here refl) (rest more refl))
collected_step P (Ok here) (Err diag) first rest list is = cc
collected_step P (Err diag) b first rest list is = cc

of_nothing : {B : Type 0} (P : B → Type 0) (list : List B) → ◌≡◌ {A = Result (List B) Diag} (Ok []) (Ok list)
    → All P list
of_nothing {B} P list is = let same : [] ≡ list = cc in subst (All P) same (All-nil P)

collected_all : {A B : Type 0} (P : B → Type 0) (step : A → Result (List B) Diag)
    → ((x : A) (list : List B) → step x ≡ Ok list → All P list)
    → (xs : List A) (list : List B) → collected step xs ≡ Ok list → All P list
collected_all P step each [] list is = of_nothing P list is
collected_all P step each (x ∷ xs) list is =
    collected_step P (step x) (collected step xs) (each x) (collected_all P step each xs) list is

-- ---- exports

export_below : (n : ℕ) (at : Place) (name : ModName) (f : Found) (exports : List Export) → FoundBelow n f
    → export_by at name f ≡ Ok exports → ExportsBelow n exports
export_below n at name (found.One v) exports below is =
    let item : Export = record { name = name; unit = v; hash = None } in
    let same : (item ∷ []) ≡ exports = cc in
    subst (ExportsBelow n) same
    (All-push (λ (e : Export). e.unit < n) [] item (All-nil (λ (e : Export). e.unit < n)) below)
export_below n at name found.Missing exports below is = cc
export_below n at name found.Several exports below is = cc

entry_below : (n : ℕ) (behind : ModName → Found) (o : Option Entry) (exports : List Export)
    → ((name : ModName) → FoundBelow n (behind name)) → entry_export behind o ≡ Ok exports → ExportsBelow n exports
entry_below n behind None exports all is = of_nothing (λ (e : Export). e.unit < n) exports is
entry_below n behind (Some entry) exports all is =
    export_below n entry.at entry.name (behind entry.name) exports (all entry.name) is

once_below : {A : Type 0} (P : A → Type 0) (same : A → A → Bool) (xs : List A) → All P xs → All P (each_once same xs)
once_below P same [] all = All-nil P
once_below P same (x ∷ xs) all =
    All-append P (x ∷ []) (filter (λ y. not (same x y)) (each_once same xs))
    (All-push P [] x (All-nil P) (all 0 x (omega arith)))
    (All-filter (λ y. not (same x y)) P (each_once same xs)
    (once_below P same xs (λ k d lt. all (suc k) d (omega (arith, lt)))))

once_of : (n : ℕ) (r : Result (List Export) Diag) (exports : List Export)
    → ((list : List Export) → r ≡ Ok list → ExportsBelow n list)
    → (r >>= (λ all. Ok (each_once same_export all))) ≡ Ok exports → ExportsBelow n exports
once_of n (Ok all) exports each is =
    let same : each_once same_export all ≡ exports = cc in
    subst (ExportsBelow n) same (once_below (λ (e : Export). e.unit < n) same_export all (each all refl))
once_of n (Err diag) exports each is = cc

entries_below : (n : ℕ) (behind : ModName → Found) (entries : List Entry) (chosen : List ℕ) (exports : List Export)
    → ((name : ModName) → FoundBelow n (behind name)) → entry_exports behind entries chosen ≡ Ok exports
    → ExportsBelow n exports
entries_below n behind entries chosen exports all is =
    once_of n (collected (λ i. entry_export behind (slice_get entries i)) chosen) exports
    (collected_all (λ (e : Export). e.unit < n) (λ i. entry_export behind (slice_get entries i))
    (λ i list gives. entry_below n behind (slice_get entries i) list all gives) chosen) is

defaults_below : (n : ℕ) (behind : ModName → Found) (file : List ℕ) (shown : List ModName) (exports : List Export)
    → ((name : ModName) → FoundBelow n (behind name)) → default_exports behind file shown ≡ Ok exports
    → ExportsBelow n exports
defaults_below n behind file shown exports all is =
    collected_all (λ (e : Export). e.unit < n) (λ name. export_by (file_place file) name (behind name))
    (λ name list gives. export_below n (file_place file) name (behind name) list (all name) gives)
    (in_name_order shown) exports is

list_below : (n : ℕ) (b : Bool) (first second : Result (List Export) Diag) (exports : List Export)
    → ((list : List Export) → first ≡ Ok list → ExportsBelow n list)
    → ((list : List Export) → second ≡ Ok list → ExportsBelow n list)
    → cond b first second ≡ Ok exports → ExportsBelow n exports
list_below n true first second exports one two is = one exports is
list_below n false first second exports one two is = two exports is

shown_below : (n : ℕ) (behind beneath : ModName → Found) (group : Group) (shown : List ModName) (chosen : List ℕ)
    (exports : List Export)
    → ((name : ModName) → FoundBelow n (behind name)) → ((name : ModName) → FoundBelow n (beneath name))
    → shown_list behind beneath group shown chosen ≡ Ok exports → ExportsBelow n exports
shown_below n behind beneath group shown chosen exports all under is =
    list_below n (is_empty group.entries) (default_exports beneath group.file shown)
    (entry_exports behind group.entries chosen) exports
    (λ list gives. defaults_below n beneath group.file shown list under gives)
    (λ list gives. entries_below n behind group.entries chosen list all gives) is

group_shown : (p : Project) (skeletons : List Skeleton) (defs : List Def) (g : ℕ) (below : List (List Export))
    (group : Group) (exports : List Export) → IsWellFormed p → All (ExportsBelow (length p.units)) below
    → shown_by p skeletons defs g below group ≡ Ok exports → ExportsBelow (length p.units) exports
group_shown p skeletons defs g below group exports formed all is =
    let behind = behind_name p skeletons below g (members p g) in
    let beneath = behind_name p skeletons below g (subgroups p g) in
    then_step (chosen_items defs (names_there p skeletons below g) group.export_lines)
    (shown_list behind beneath group (default_names p skeletons below g)) exports
    (ExportsBelow (length p.units) exports)
    (λ chosen chose gives. shown_below (length p.units) behind beneath group (default_names p skeletons below g) chosen
    exports
    (λ name. behind_below (length p.units) p below (definers p skeletons g name) (members p g) name
    (definers_below p skeletons g name formed) all)
    (λ name. behind_below (length p.units) p below (definers p skeletons g name) (subgroups p g) name
    (definers_below p skeletons g name formed) all) gives) is

past_clash : (n : ℕ) (p : Project) (o : Option (ℕ × Spot)) (r : Result (List Export) Diag) (exports : List Export)
    → ((list : List Export) → r ≡ Ok list → ExportsBelow n list) → unless_clash p o r ≡ Ok exports
    → ExportsBelow n exports
past_clash n p None r exports each is = each exports is
past_clash n p (Some at) r exports each is = cc

recorded_below : (n : ℕ) (o : Option (List Export)) (r : Result (List Export) Diag) (exports : List Export)
    → AreBelow n o → ((list : List Export) → r ≡ Ok list → ExportsBelow n list) → recorded_or o r ≡ Ok exports
    → ExportsBelow n exports
recorded_below n None r exports below each is = each exports is
recorded_below n (Some recorded) r exports below each is =
    let same : recorded ≡ exports = cc in subst (ExportsBelow n) same below

group_below : (p : Project) (skeletons : List Skeleton) (defs : List Def) (g : ℕ) (below : List (List Export))
    (o : Option Group) (exports : List Export) → IsWellFormed p → All (ExportsBelow (length p.units)) below
    → slice_get p.groups g ≡ o → group_exports p skeletons defs g below o ≡ Ok exports
    → ExportsBelow (length p.units) exports
group_below p skeletons defs g below None exports formed all here is =
    of_nothing (λ (e : Export). e.unit < length p.units) exports is
group_below p skeletons defs g below (Some group) exports formed all here is =
    let within = item_of (IsGroupWithin (length p.groups) (length p.units)) p.groups g group formed.groups here in
    let shown = shown_by p skeletons defs g below group in
    recorded_below (length p.units) group.thawed (unless_clash p (clash_in p skeletons g) shown) exports within.thawed
    (λ list gives. past_clash (length p.units) p (clash_in p skeletons g) shown list
    (λ some gave. group_shown p skeletons defs g below group some formed all gave) gives) is

exports_below : (p : Project) (skeletons : List Skeleton) (defs : List Def) (g : ℕ) (below : List (List Export))
    (exports : List Export) → IsWellFormed p → All (ExportsBelow (length p.units)) below
    → exports_of p skeletons defs g below ≡ Ok exports → ExportsBelow (length p.units) exports
exports_below p skeletons defs g below exports formed all is =
    group_below p skeletons defs g below (slice_get p.groups g) exports formed all refl is

-- ---- imports

nothing_or : (n : ℕ) (b : Bool) (diag : Diag) (list : List Wanted)
    → ◌≡◌ {A = Result (List Wanted) Diag} (cond b (Ok []) (Err diag)) (Ok list) → WantedBelow n list
nothing_or n true diag list is = of_nothing (λ (w : Wanted). w.provider < n) list is
nothing_or n false diag list is = cc

refused_or : (n : ℕ) (b : Bool) (diag : Diag) (list : List Wanted)
    → ◌≡◌ {A = Result (List Wanted) Diag} (cond b (Err diag) (Ok [])) (Ok list) → WantedBelow n list
refused_or n true diag list is = cc
refused_or n false diag list is = of_nothing (λ (w : Wanted). w.provider < n) list is

import_below : (n : ℕ) (basis : Bool) (at : Place) (need : Need) (f : Found) (list : List Wanted) → FoundBelow n f
    → import_by basis at need f ≡ Ok list → WantedBelow n list
import_below n basis at need (found.One v) list below is =
    let item : Wanted = record { name = need.spot.name; provider = v } in
    let same : (item ∷ []) ≡ list = cc in
    subst (WantedBelow n) same
    (All-push (λ (w : Wanted). w.provider < n) [] item (All-nil (λ (w : Wanted). w.provider < n)) below)
import_below n basis at need found.Several list below is =
    refused_or n need.sure (name_refused 23 at need.spot.name) list is
import_below n basis at need found.Missing list below is =
    nothing_or n (not need.sure || (basis && is_built_in need.spot.name)) (name_refused 24 at need.spot.name) list is

provider_below : (p : Project) (skeletons : List Skeleton) (below : List (List Export)) (g u : ℕ) (name : ModName)
    → IsWellFormed p → All (ExportsBelow (length p.units)) below
    → FoundBelow (length p.units) (provider_in p skeletons below g u name)
provider_below p skeletons below g u name formed all =
    behind_below (length p.units) p below (other_definers p skeletons g u name) (members p g) name
    (All-filter (λ v. not (v == u)) (λ v. v < length p.units) (definers p skeletons g name)
    (definers_below p skeletons g name formed)) all

imports_below : (p : Project) (skeletons : List Skeleton) (below : List (List Export)) (g u : ℕ) (list : List Wanted)
    → IsWellFormed p → All (ExportsBelow (length p.units)) below → imports_in p skeletons below g u ≡ Ok list
    → WantedBelow (length p.units) list
imports_below p skeletons below g u list formed all is =
    collected_all (λ (w : Wanted). w.provider < length p.units)
    (λ (need : Need). import_by (sees_basis p u) (spot_place (unit_file p u) need.spot) need
    (provider_in p skeletons below g u need.spot.name))
    (λ need some gives. import_below (length p.units) (sees_basis p u) (spot_place (unit_file p u) need.spot) need
    (provider_in p skeletons below g u need.spot.name) some
    (provider_below p skeletons below g u need.spot.name formed all) gives)
    (skeleton_of skeletons u).free list is

-- ---- all names

-- lists of imports: one for each unit, and each provider a unit
pub record AreUnits (p : Project) (wanted : List (List Wanted)) : Type 0 where
  pub counted : length wanted ≡ length p.units
  pub each : All (λ (list : List Wanted). All (λ (w : Wanted). w.provider < length p.units) list) wanted

set_units : (p : Project) (wanted : List (List Wanted)) (u : ℕ) (list : List Wanted)
    → WantedBelow (length p.units) list → AreUnits p wanted → AreUnits p (slice_set wanted u list)
set_units p wanted u list below are = record {
  counted = length-set wanted u list ∙ are.counted;
  each = All-set (WantedBelow (length p.units)) wanted u list below are.each;
}

imported : (p : Project) (imports : ℕ → Result (List Wanted) Diag)
    → ((u : ℕ) (list : List Wanted) → imports u ≡ Ok list → WantedBelow (length p.units) list)
    → (units : List ℕ) (old new : List (List Wanted)) → AreUnits p old → with_imports imports units old ≡ Ok new
    → AreUnits p new
imported p imports each [] old new are is = let same : old ≡ new = cc in subst (AreUnits p) same are
imported p imports each (u ∷ units) old new are is =
    then_step (imports u) (λ these. with_imports imports units (slice_set old u these)) new (AreUnits p new)
    (λ list gives more. imported p imports each units (slice_set old u list) new
    (set_units p old u list (each u list gives) are) more) is

named : (p : Project) (skeletons : List Skeleton) (defs : List Def) (groups : List ℕ) (so_far all : Names)
    → IsWellFormed p → All (ExportsBelow (length p.units)) so_far.exports → AreUnits p so_far.wanted
    → with_groups p skeletons defs groups so_far ≡ Ok all → AreUnits p all.wanted
named p skeletons defs [] so_far all formed below are is =
    let same : so_far ≡ all = cc in subst (λ (n : Names). AreUnits p n.wanted) same are
named p skeletons defs (g ∷ groups) so_far all formed below are is =
    then_step (exports_of p skeletons defs g so_far.exports)
    (λ e. with_imports (imports_in p skeletons so_far.exports g) (importing p g) so_far.wanted
    >>= (λ w. with_groups p skeletons defs groups (names (so_far.exports ++ e ∷ []) w))) all (AreUnits p all.wanted)
    (λ e gives rest.
    then_step (with_imports (imports_in p skeletons so_far.exports g) (importing p g) so_far.wanted)
    (λ w. with_groups p skeletons defs groups (names (so_far.exports ++ e ∷ []) w)) all (AreUnits p all.wanted)
    (λ w set more. named p skeletons defs groups (names (so_far.exports ++ e ∷ []) w) all formed
    (All-push (ExportsBelow (length p.units)) so_far.exports e below
    (exports_below p skeletons defs g so_far.exports e formed below gives))
    (imported p (imports_in p skeletons so_far.exports g)
    (λ u list found. imports_below p skeletons so_far.exports g u list formed below found)
    (importing p g) so_far.wanted w are set) more) rest) is

none_imported : (p : Project) → AreUnits p (no_imports p)
none_imported p = record {
  counted = length-map p.units (λ (unit : ProjectUnit). []);
  each = All-map (WantedBelow (length p.units)) (λ (unit : ProjectUnit). []) p.units
      (λ k d lt. All-nil (λ (w : Wanted). w.provider < length p.units));
}

-- the names of a project have one list of imports for each unit, and each provider is a unit
pub names_are_units : (p : Project) (skeletons : List Skeleton) (defs : List Def) (all : Names) → IsWellFormed p
    → names_of p skeletons defs ≡ Ok all → AreUnits p all.wanted
names_are_units p skeletons defs all formed is =
    named p skeletons defs p.finished (names [] (no_imports p)) all formed (All-nil (ExportsBelow (length p.units)))
    (none_imported p) is

pub names_counted : (p : Project) (skeletons : List Skeleton) (defs : List Def) (all : Names) → IsWellFormed p
    → names_of p skeletons defs ≡ Ok all → length all.wanted ≡ length p.units
names_counted p skeletons defs all formed is = (names_are_units p skeletons defs all formed is).counted

pub names_provided : (p : Project) (skeletons : List Skeleton) (defs : List Def) (all : Names) → IsWellFormed p
    → names_of p skeletons defs ≡ Ok all → AreProvided p all.wanted
names_provided p skeletons defs all formed is = (names_are_units p skeletons defs all formed is).each
