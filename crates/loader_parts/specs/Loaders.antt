-- The tables beside what was loaded, in which groups are found by their names and numbers.
use Rattle.std.specs.Prelude.{◌≡◌, ◌≤◌, ℕ, nat_eq, map, length, All}
use Rattle.std.specs.List.{list_any}
use Rattle.project_loading.specs.Projects.{is_finished}
use Rattle.project_checks.specs.Whole.{IsSound, Descends}
use Rattle.project_checks.specs.declared.limits.TheConstants.{GROUPS, UNITS, ALL_SOURCES}
use Rattle.loader_parts.specs.LoadedProjects.{IsSource}
use Rattle.loader_parts.specs.declared.loader.Loader.{Loader}

-- one table has the names of the groups in the order of their numbers, the other one the numbers of those that ended;
-- no limit is passed, and each unit has its source
pub record HasTables (loader : Loader) : Type 0 where
  pub named : loader.names.keys ≡ map (λ group. group.file) loader.progress.groups
  pub numbered : (number : ℕ) → list_any (nat_eq number) loader.ended.keys ≡ is_finished loader.progress number
  pub few : length loader.progress.groups ≤ GROUPS
  pub units : length loader.progress.units ≤ UNITS
  pub sum : loader.progress.sum ≤ ALL_SOURCES
  pub sources : All IsSource loader.progress.units

-- what is asked of a loader before each step
pub record IsReady (loader : Loader) : Type 0 where
  pub tables : HasTables loader
  pub sound : IsSound loader.progress

-- what a step leaves
pub record GoesOn (old new : Loader) : Type 0 where
  pub ready : IsReady new
  pub down : Descends old.progress new.progress
