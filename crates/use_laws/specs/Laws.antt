-- The laws of what uses leave.
use Rattle.std.specs.Prelude.{ℕ, ◌≡◌, true, List, Contains, Some}
use Rattle.cm_base.specs.Files.{Files, is_stored}
use Rattle.cm_base.specs.Keeping.{Keeps}
use Rattle.cm_base.specs.declared.record.CompileInput.{CompileInput}
use Rattle.build_laws.specs.PlainBuild.{Build}
use Rattle.build_laws.specs.Stale.{asked_in, is_fresh, marked}
use Rattle.tool_deriving.specs.Deriving.{ToolUse}
use Rattle.member_deriving.specs.Uses.{Work, after_uses, runs_of}
use Rattle.box_deriving.specs.Boxes.{CutOff, InStep, Origin, World}
use Rattle.use_laws.specs.Left.{Leaves, record_paths}

-- uses write the records of those that run, and no other file
pub record WriteRecords (files : Files) (jobs : List ToolUse) : Type 0 where
  pub keeps : Keeps (Some files) (Some (after_uses files jobs)) (record_paths (runs_of files jobs))
  pub stored : (path : List ℕ) → Contains (record_paths jobs) path → is_stored path ≡ true

abbrev pub UsesWriteRecords : Type 0
UsesWriteRecords = (files : Files) (jobs : List ToolUse) → WriteRecords files jobs

-- what a loading leaves that went on to its end ..
abbrev pub UsesInStepLeave : Type 0
UsesInStepLeave = (origin : Origin) (work : Work) (now : World) → InStep origin work now
    → Leaves origin (runs_of origin.files work.uses) now

-- .. and one that was cut off
abbrev pub CutOffLeavesFronts : Type 0
CutOffLeavesFronts = (origin : Origin) (jobs : List ToolUse) (now : World) → CutOff origin jobs now
    → Leaves origin (runs_of origin.files jobs) now

-- a build over the files as uses leave them comes as over the files before: the same units are loaded and compiled, and
-- the compiler is asked for the same
pub record ComesAlike (files : Files) (jobs : List ToolUse) : Type 0 where
  pub fresh : (input : CompileInput) → is_fresh (after_uses files jobs) input ≡ is_fresh files input
  pub units : (build : Build) → marked (after_uses files jobs) build ≡ marked files build
  pub asked : (build : Build) → asked_in (after_uses files jobs) build ≡ asked_in files build

abbrev pub StaysFresh : Type 0
StaysFresh = (files : Files) (jobs : List ToolUse) → ComesAlike files jobs
