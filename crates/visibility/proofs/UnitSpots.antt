-- The table of definers, unit after unit.
use Rattle.std.proofs.Common.{◌≡◌, ◌∙◌, sym, ap, subst, refl, ℕ, ◌+◌, ◌<◌, ◌≤◌, List, length, drop, get_or, Option, Some, None, Result, Ok, Err}
use Rattle.std.specs.Result.{IsErrAnd}
use Rattle.std.proofs.lemmas.List.{drop_all}
use Rattle.indexmap.specs.IndexMap.{IndexMap, get}
use Rattle.cm_base.specs.declared.fault.Fault.{Fault}
use Rattle.cm_base.specs.declared.fault.Fault.TheVariants as fault
use Rattle.cm_base.specs.declared.record.ModName.{ModName}
use Rattle.cm_base.specs.declared.record.Skeleton.{Skeleton}
use Rattle.cm_base.specs.declared.record.Spot.{Spot}
use Rattle.cm_description.specs.declared.loaded.Project.{Project}
use Rattle.visibility.proofs.Defining.{SameSpots, first_clash, first_definer, none_found, or_none, own_item, unit_clashes, unit_fits}
use Rattle.visibility.specs.Exports.{defined_spots, spots_in}
use Rattle.visibility.specs.Projects.{skeleton_of}
use Rattle.visibility.specs.Tables.{AddsSpots, FindsFirst, MakesDefiners, clash_after, with_spots}

-- the spots of the unit at a place
abbrev spots_at : List Skeleton → List ℕ → ℕ → List (ℕ × Spot)
spots_at skeletons units i = spots_in (get_or units i 0) (skeleton_of skeletons (get_or units i 0)).defined

-- one more unit is added
pub unit_added : (project : Project) (skeletons : List Skeleton) (old new : ModName → Option ℕ) (units : List ℕ) (i : ℕ)
    (all : ModName → Option ℕ) (whole : List (ℕ × Spot)) → i < length units
    → AddsSpots (Ok tt) old new project (spots_at skeletons units i)
    → SameSpots old (defined_spots skeletons (drop i units)) all whole
    → SameSpots new (defined_spots skeletons (drop (i + 1) units)) all whole
unit_added project skeletons old new units i all whole lt added same =
    unit_fits skeletons old new units i (get_or units i 0) all whole lt (own_item units i lt) added.0 added.1 same

clash_is : (project : Project) (skeletons : List Skeleton) (units : List ℕ) (old : ModName → Option ℕ) (i : ℕ)
    (at : ℕ × Spot) → i < length units → clash_after old (spots_at skeletons units i) ≡ Some at
    → SameSpots old (defined_spots skeletons (drop i units)) none_found (defined_spots skeletons units)
    → clash_after none_found (defined_spots skeletons units) ≡ Some at
clash_is project skeletons units old i at lt clash same =
    unit_clashes skeletons old units i (get_or units i 0) at none_found (defined_spots skeletons units) lt
    (own_item units i lt) clash same

refused_by : (S : Type 0) (project : Project) (skeletons : List Skeleton) (units : List ℕ)
    (old new : ModName → Option ℕ) (i : ℕ) (e : Fault) → i < length units
    → AddsSpots (Err e) old new project (spots_at skeletons units i)
    → SameSpots old (defined_spots skeletons (drop i units)) none_found (defined_spots skeletons units)
    → MakesDefiners {S = S} (Err e) project skeletons units
refused_by S project skeletons units old new i (fault.Diag diag) lt added same = (
  added.0,
  sym (first_clash skeletons units) ∙ clash_is project skeletons units old i added.0 lt added.1 same,
  added.2,
)
refused_by S project skeletons units old new i fault.NoMemory lt added same = tt

-- a unit that is refused ends the work
pub unit_refused : {S : Type 0} (project : Project) (skeletons : List Skeleton) (units : List ℕ)
    (old new : ModName → Option ℕ) (i : ℕ) (e : Fault) (r : Result (IndexMap ModName ℕ S) Fault)
    → IsErrAnd r (λ y. y ≡ e) → i < length units → AddsSpots (Err e) old new project (spots_at skeletons units i)
    → SameSpots old (defined_spots skeletons (drop i units)) none_found (defined_spots skeletons units)
    → MakesDefiners r project skeletons units
unit_refused project skeletons units old new i e (Ok table) is lt added same = absurd is
unit_refused {S} project skeletons units old new i e (Err y) is lt added same =
    subst (λ (x : Fault). MakesDefiners {S = S} (Err x) project skeletons units) (sym is)
    (refused_by S project skeletons units old new i e lt added same)

-- all units are added
pub all_added : (skeletons : List Skeleton) (table : ModName → Option ℕ) (units : List ℕ) (i : ℕ) → length units ≤ i
    → SameSpots table (defined_spots skeletons (drop i units)) none_found (defined_spots skeletons units)
    → FindsFirst table skeletons units
all_added skeletons table units i past same = record {
  apart =
      sym (first_clash skeletons units) ∙ sym same.clash
      ∙ ap (λ left. clash_after table (defined_spots skeletons left)) (drop_all i units past);
  first = λ name.
      sym (or_none (table name))
      ∙ sym (ap (λ left. with_spots table (defined_spots skeletons left) name) (drop_all i units past))
      ∙ same.finds name
      ∙ first_definer skeletons units name;
}
