-- What a command builds, and how that goes: as a compiler and the plain build have it, which know no store, as it comes
-- over the store at entry; or over a store as it stands.
use Rattle.std.specs.Prelude.{ℕ, List, [], Option, Some, Result, Ok, Err}
use Rattle.cm_base.specs.Definitions.{Definitions}
use Rattle.cm_base.specs.Files.{Files}
use Rattle.cm_base.specs.declared.diag.Diag.{Diag}
use Rattle.cm_base.specs.declared.record.BuiltUnit.{BuiltUnit}
use Rattle.cm_base.specs.declared.record.Def.{Def}
use Rattle.cm_base.specs.declared.record.PlannedUnit.{PlannedUnit}
use Rattle.cm_description.specs.declared.loaded.Project.{Project}
use Rattle.project_planning.specs.Buildable.{planned_units}
use Rattle.project_planning.specs.Planning.{Planning, plain_plan, plan_over}
use Rattle.project_planning.specs.declared.plan.Plan.{Plan}
use Rattle.build_laws.specs.CutBuild.{Cut, cut_build}
use Rattle.build_laws.specs.PlainBuild.{Build, compiled_units, plain_build}
use Rattle.build_laws.specs.Stale.{marked, asked_in}
use Rattle.build_laws.specs.Storing.{with_units}

-- ---- what is built

-- the units in their order, or the first refusal before any unit's turn; and the units for whose skeletons the compiler
-- is asked
pub record Prepared : Type 0 where
  pub units : Result (List PlannedUnit) Diag
  pub asked_skeletons : List (List ℕ)

-- .. where loading is refused
abbrev pub unloaded : Diag → Prepared
unloaded diag = record { units = Err diag; asked_skeletons = [] }

-- .. of a project, in the order of its plan: its skeletons, names or order may be refused
abbrev pub units_of : Project → Result Plan Diag → Result (List PlannedUnit) Diag
units_of project (Err diag) = Err diag
units_of project (Ok plan) = Ok (planned_units project plan)

abbrev pub of_planning : Project → Planning → Prepared
of_planning project planning =
    record { units = units_of project planning.result; asked_skeletons = planning.asked }

-- how a project is planned under definitions
abbrev pub Planner : Type 0
Planner = Project → List Def → Planning

abbrev pub of_loading : Planner → List Def → Result Project Diag → Prepared
of_loading plans defs (Err diag) = unloaded diag
of_loading plans defs (Ok project) = of_planning project (plans project defs)

-- ---- how it is built

-- a build of units over files: which are done and how each came, the diagnostic that ends it, for which units the
-- compiler is asked, and the files with what is done
abbrev pub Builder : Type 0
Builder = Files → List PlannedUnit → Cut

-- a plain build as it comes over files: a unit that is stale there is compiled, each other one is loaded; each unit
-- that is done has its interface file and its binfile then
abbrev pub coming : Files → List PlannedUnit → Build → Cut
coming files planned build = record {
  units = marked files build;
  ended = build.ended;
  asked = asked_in files build;
  files = with_units files planned (compiled_units build.units);
}

abbrev pub plain_over : Definitions → Builder
plain_over by files planned = coming files planned (plain_build by.compiled planned)

-- the build over a store as it stands
abbrev pub store_over : Definitions → Builder
store_over by files planned = cut_build by.compiled files planned

-- How a command goes about its work over files: how it plans a project, and how it builds the units.
pub record Way : Type 0 where
  pub plans : Files → Planner
  pub builds : Builder

-- with the compiler's skeletons, of which it is asked for those alone that no binfile has; and by the plain build
abbrev pub plain_way : Definitions → Way
plain_way by = record { plans = plain_plan by.skel; builds = plain_over by }

-- with the skeletons and the units of the store as it stands, whoever wrote it
abbrev pub store_way : Definitions → Way
store_way by = record { plans = plan_over by.skel; builds = store_over by }

-- a build that ended so over files that have its units already
abbrev pub ending : List BuiltUnit → Option Diag → Files → Cut
ending units ended files = record { units = units; ended = ended; asked = []; files = files }

-- a build of what is prepared; a refusal ends it before its first unit
abbrev pub built : Builder → Files → Result (List PlannedUnit) Diag → Cut
built over files (Err diag) = ending [] (Some diag) files
built over files (Ok planned) = over files planned
