-- What the units of a build have: the compiler's skeletons, names that differ, interfaces and paths.
use Rattle.std.specs.Prelude.{ℕ, ◌≡◌, ◌≢◌, List, [], ◌∷◌, Result, Ok, map}
use Rattle.std.specs.List.{AllByRecursion, flat_map}
use Rattle.cm_base.specs.Definitions.{Definitions}
use Rattle.cm_base.specs.declared.diag.Diag.{Diag}
use Rattle.cm_base.specs.declared.record.PlannedUnit.{PlannedUnit}
use Rattle.cm_base.specs.declared.record.Skeleton.{Skeleton}
use Rattle.build_laws.specs.PlainBuild.{PlainUnit, compiled_unit}
use Rattle.build_laws.specs.Storing.{unit_paths, IsSmallPlanned}

-- the interfaces of a build's units
abbrev pub interfaces_of : List PlainUnit → List (List ℕ)
interfaces_of units = map (λ unit. unit.made.interface) units

-- the paths that are written for a build's units: of each its interface's and its binfile's
abbrev pub paths_of : List PlainUnit → List (List ℕ)
paths_of units = flat_map (λ unit. unit_paths (compiled_unit unit)) units

-- each planned unit has the skeleton that the compiler gives for its source
abbrev pub HaveSkeletons : (List ℕ → List ℕ → Result Skeleton Diag) → List PlannedUnit → Type 0
HaveSkeletons skel planned = AllByRecursion (λ (p : PlannedUnit). skel p.unit p.source ≡ Ok p.skeleton) planned

-- no two planned units have one name
abbrev pub NamesDiffer : List PlannedUnit → Type 0
NamesDiffer [] = Unit {0}
NamesDiffer (p ∷ ps) = AllByRecursion (λ (q : PlannedUnit). q.unit ≢ p.unit) ps × NamesDiffer ps

-- what is asked of the units that are planned: the compiler's skeletons, names that differ, and texts, lists and numbers
-- that the store's formats can hold
pub record ArePlanned (by : Definitions) (planned : List PlannedUnit) : Type 0 where
  pub names : NamesDiffer planned
  pub skeletons : HaveSkeletons by.skel planned
  pub small : AllByRecursion IsSmallPlanned planned
