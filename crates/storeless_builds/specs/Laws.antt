-- The law that a plain build knows no store: what a folder has below `.cm/` changes neither which units are planned nor
-- what is left of them. (What becomes of them in between is `plain_build`, which is told no files.)
use Rattle.std.specs.Prelude.{ℕ, ◌≡◌, ◌↔◌, ◌⊎◌, false, List, Result, Ok, Err, Contains}
use Rattle.std.specs.FinMap.{get}
use Rattle.cm_base.specs.Definitions.{Definitions}
use Rattle.cm_base.specs.Files.{Files, project_part}
use Rattle.cm_base.specs.declared.diag.Diag.{Diag}
use Rattle.cm_base.specs.declared.record.CompileInput.{CompileInput}
use Rattle.cm_base.specs.declared.record.Compiled.{Compiled}
use Rattle.cm_base.specs.declared.record.Def.{Def}
use Rattle.cm_base.specs.declared.record.PlannedUnit.{PlannedUnit}
use Rattle.cm_description.specs.declared.loaded.Project.{Project}
use Rattle.project_loading.specs.Projects.{project_of}
use Rattle.loading_laws.specs.Laws.{SameProjectFiles}
use Rattle.project_planning.specs.Buildable.{planned_units}
use Rattle.project_planning.specs.Planning.{plan_of}
use Rattle.project_planning.specs.declared.plan.Plan.{Plan}
use Rattle.build_laws.specs.PlainBuild.{compiled_units, plain_build}
use Rattle.build_laws.specs.Planned.{paths_of}
use Rattle.build_laws.specs.Storing.{with_units}

-- ---- what is left

-- the files with the interface file and the binfile of each unit that a plain build does
abbrev pub with_built : (CompileInput → Result Compiled Diag) → List PlannedUnit → Files → Files
with_built compiled planned files = with_units files planned (compiled_units (plain_build compiled planned).units)

-- a plain build over two folders leaves the same at each path that is written for a unit that is done, and at each path
-- where both had the same
pub record LeavesAlike (compiled : CompileInput → Result Compiled Diag) (planned : List PlannedUnit)
    (a b : Files) : Type 0 where
  pub units : (path : List ℕ) → Contains (paths_of (plain_build compiled planned).units) path
      → get (with_built compiled planned a) path ≡ get (with_built compiled planned b) path
  pub others : (path : List ℕ) → get a path ≡ get b path
      → get (with_built compiled planned a) path ≡ get (with_built compiled planned b) path

-- .. whatever the folders are
abbrev pub BuildsLeaveAlike : Type 0
BuildsLeaveAlike = (compiled : CompileInput → Result Compiled Diag) (planned : List PlannedUnit) (a b : Files)
    → LeavesAlike compiled planned a b

-- ---- what is planned

-- the units that a build from ROOT takes in a folder, in their order: those of the plan of its project
pub record ArePlannedIn (by : Definitions) (files : Files) (defs : List Def) (root : List ℕ)
    (units : List PlannedUnit) : Type 0 where
  pub project : Project
  pub loads : project_of files defs root false ≡ Ok project
  pub plan : Plan
  pub plans : (plan_of by.skel project defs).result ≡ Ok plan
  pub units_are : units ≡ planned_units project plan

-- a project whose planning is refused with this
abbrev pub IsUnplanned : Definitions → Project → List Def → Diag → Type 0
IsUnplanned by project defs diag = (plan_of by.skel project defs).result ≡ Err diag

-- what is refused first where no units are planned: in loading, or in the planning of what was loaded
abbrev pub IsRefusedIn : Definitions → Files → List Def → List ℕ → Diag → Type 0
IsRefusedIn by files defs root diag = (project_of files defs root false ≡ Err diag)
    ⊎ ((project : Project) × (project_of files defs root false ≡ Ok project) × IsUnplanned by project defs diag)

-- two folders in which the same is planned or refused, and the same is left of it
pub record BuildsAlike (by : Definitions) (a b : Files) (defs : List Def) (root : List ℕ) : Type 0 where
  pub planned : (units : List PlannedUnit) → ArePlannedIn by a defs root units ↔ ArePlannedIn by b defs root units
  pub refused : (diag : Diag) → IsRefusedIn by a defs root diag ↔ IsRefusedIn by b defs root diag
  pub left : (units : List PlannedUnit) → ArePlannedIn by a defs root units → LeavesAlike by.compiled units a b

-- a build reads no file of the store
abbrev pub BuildReadsTheProject : Type 0
BuildReadsTheProject = (by : Definitions) (a b : Files) → SameProjectFiles a b → (defs : List Def) (root : List ℕ)
    → BuildsAlike by a b defs root

-- so the store may as well not be there: a build from nothing does and leaves the same
abbrev pub BuildKnowsNoStore : Type 0
BuildKnowsNoStore = (by : Definitions) (files : Files) (defs : List Def) (root : List ℕ)
    → BuildsAlike by files (project_part files) defs root
