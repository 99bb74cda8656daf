-- What a command with tools means in a folder, beside what it means where the same project stands alone, without a store:
-- there it is built from nothing.
use Rattle.std.specs.Prelude.{ℕ, ◌≡◌, ◌≢◌, false, List, [], Option, Some, None, Result, Ok, Err, Contains, map}
use Rattle.std.specs.FinMap.{get}
use Rattle.cm_base.specs.Definitions.{Definitions}
use Rattle.cm_base.specs.Files.{Files, HasNoStore, is_stored}
use Rattle.cm_base.specs.declared.diag.Diag.{Diag}
use Rattle.cm_base.specs.declared.record.PlannedUnit.{PlannedUnit}
use Rattle.cm_description.specs.declared.loaded.Project.{Project}
use Rattle.loading_laws.specs.Laws.{SameProjectFiles}
use Rattle.project_planning.specs.Planning.{plain_plan}
use Rattle.skeleton_asking.specs.Skeletons.{asked_over, skeletons_of}
use Rattle.bin_store.specs.Paths.{linked_path}
use Rattle.build_laws.specs.PlainBuild.{Build, compiled_units, plain_build}
use Rattle.build_laws.specs.Planned.{paths_of}
use Rattle.build_laws.specs.Stale.{asked_in, inputs_of, marked}
use Rattle.command_words.specs.declared.command.Command.{Command}
use Rattle.command_words.specs.declared.command.Command.TheVariants as command
use Rattle.command_parts.specs.Lines.{report}
use Rattle.command_parts.specs.Meaning.{ended_with}
use Rattle.command_parts.specs.Targets.{out_in, target_of}
use Rattle.cm_base.specs.Derived.{ToolRules}
use Rattle.cm_base.specs.declared.record.Def.{Def}
use Rattle.member_deriving.specs.Uses.{runs_of}
use Rattle.tool_loading.specs.Projects.{project_of}
use Rattle.command_parts.specs.ProjectBuild.{of_loading}
use Rattle.cm_top.specs.Meaning.{Meaning}

-- a folder with the same project as another, in which no store was begun
pub record HasProjectAlone (files clean : Files) : Type 0 where
  pub project : SameProjectFiles files clean
  pub none : HasNoStore clean

-- ---- the plain build

-- The plain build of what is planned: each unit in its order with what the compiler sees and makes of it, up to the
-- first diagnostic. A refusal before the first unit is the whole of it.
abbrev pub build_of : Definitions → Result (List PlannedUnit) Diag → Build
build_of by (Err diag) = record { units = []; ended = Some diag; at_fault = None }
build_of by (Ok planned) = plain_build by.compiled planned

-- the units of a project that was loaded, in their order, or the first refusal
abbrev pub units_of : Definitions → Files → List Def → Result Project Diag → Result (List PlannedUnit) Diag
units_of by files defs loaded = (of_loading (plain_plan by.skel files) defs loaded).units

abbrev pub unless_out_is : Result (List ℕ) Diag → Result (List PlannedUnit) Diag → Result (List PlannedUnit) Diag
unless_out_is (Ok path) units = units
unless_out_is (Err diag) units = Err diag

-- what a command builds in a folder, by tools of these classes and rules
abbrev pub planned_in : Definitions → ToolRules → Files → Command → Result (List PlannedUnit) Diag
planned_in by rules files (command.Build defs root) = units_of by files defs (project_of files rules defs root false)
planned_in by rules files (command.Link defs root out) =
    unless_out_is (out_in files root out) (units_of by files defs (project_of files rules defs root false))

abbrev pub build_in : Definitions → ToolRules → Files → Command → Build
build_in by rules files command = build_of by (planned_in by rules files command)

-- its diagnostic, or that of linking what it did
abbrev pub end_of : Build → Option Diag
end_of build = ended_with build.ended (compiled_units build.units)

-- ---- the skeletons that are asked for

-- the project that a command loads, unless it is refused before
abbrev pub if_loaded : Result Project Diag → Option Project
if_loaded (Ok project) = Some project
if_loaded (Err diag) = None

abbrev pub unless_refused : Result (List ℕ) Diag → Option Project → Option Project
unless_refused (Ok path) project = project
unless_refused (Err diag) project = None

abbrev pub project_in : ToolRules → Files → Command → Option Project
project_in rules files (command.Build defs root) = if_loaded (project_of files rules defs root false)
project_in rules files (command.Link defs root out) =
    unless_refused (out_in files root out) (if_loaded (project_of files rules defs root false))

-- those of a project's sources, up to the first that is refused, of which no whole binfile of the unit was made
abbrev pub unread_in : Definitions → Files → Option Project → List (List ℕ)
unread_in by files None = []
unread_in by files (Some project) = asked_over by.skel files project

-- .. and all of them, up to that one
abbrev pub sources_in : Definitions → Option Project → List (List ℕ)
sources_in by None = []
sources_in by (Some project) = (skeletons_of by.skel project).asked

-- ---- the promise for one command

-- What a command means in a folder, `m`, is what it means where the same project stands alone, `s`, with tools of the same
-- classes and rules. Both are by one plain build, `b`, which knows no store.
pub record MeansTheSame (by : Definitions) (rules : ToolRules) (files clean : Files) (command : Command) (b : Build)
    (m s : Meaning) : Type 0 where
  -- The same units are built in the same order, each of the same and to the same, or the same is refused first.
  pub build : build_in by rules files command ≡ b
  -- It ends with the same status.
  pub status : m.effect.status ≡ s.effect.status
  -- It prints the same report but for how each unit came.
  pub output : m.effect.output ≡ report (marked files b) (end_of b)
  pub output_alone : s.effect.output ≡ report (compiled_units b.units) (end_of b)
  -- It leaves the same interface file and the same binfile of each unit that is done ..
  pub units : (path : List ℕ) → Contains (paths_of b.units) path → get m.effect.files path ≡ get s.effect.files path
  -- .. and where no diagnostic comes the same linked program, in the store and at the command's target.
  pub linked : end_of b ≡ None → get m.effect.files linked_path ≡ get s.effect.files linked_path
  pub target : (path : List ℕ) → end_of b ≡ None → target_of files command ≡ Some path
      → get m.effect.files path ≡ get s.effect.files path
  -- Nothing else of the project changes.
  pub project : (path : List ℕ) → is_stored path ≡ false → target_of files command ≢ Some path
      → get m.effect.files path ≡ get files path
  -- The compiler is asked for the stale units, in order, the one at fault among them, and for no other; there for all.
  pub asked : m.effect.asked ≡ asked_in files b
  pub asked_alone : s.effect.asked ≡ map (λ input. input.unit) (inputs_of b)
  -- It is asked for the skeletons of those sources alone of which no whole binfile was made; there of all.
  pub skeletons : m.effect.asked_skeletons ≡ unread_in by files (project_in rules clean command)
  pub skeletons_alone : s.effect.asked_skeletons ≡ sources_in by (project_in rules clean command)
  -- The interfaces are the same.
  pub interfaces : m.effect.interfaces ≡ s.effect.interfaces
  -- The same uses of tools are made. Here those run their tools for which no whole record stands; and there too, where
  -- records stand of earlier uses alone.
  pub uses : m.uses ≡ s.uses
  pub runs : m.runs ≡ runs_of files m.uses
  pub runs_alone : s.runs ≡ runs_of clean s.uses
