-- The laws of loading with tools.
use Rattle.std.specs.Prelude.{ℕ, ◌≡◌, ◌≤◌, Bool, List, []}
use Rattle.cm_base.specs.Derived.{ToolRules}
use Rattle.cm_base.specs.Files.{Files, project_part}
use Rattle.cm_base.specs.declared.diag.Place.{Place}
use Rattle.cm_base.specs.declared.record.Def.{Def}
use Rattle.loading_laws.specs.Laws.{SameProjectFiles}
use Rattle.project_checks.specs.declared.progress.Progress.{Progress}
use Rattle.project_loading.specs.Projects as plain
use Rattle.member_deriving.specs.Laws.{HasTrueRecords}
use Rattle.member_deriving.specs.Uses.{Work, after_uses, outcome, work_of}
use Rattle.tool_loading.specs.Projects.{Setting, entered, entered_within, loaded_over, project_of, tool_uses, with_entered}

-- without tools it is the loading without them, and no tool is used
pub record LoadsAsWithout (files : Files) (defs : List Def) (root : List ℕ) : Type 0 where
  pub project : (freezing : Bool) → project_of files [] defs root freezing ≡ plain.project_of files defs root freezing
  pub uses : tool_uses files [] defs root ≡ []

abbrev pub LoadingWithoutTools : Type 0
LoadingWithoutTools = (files : Files) (defs : List Def) (root : List ℕ) → LoadsAsWithout files defs root

-- two folders with the same files outside the store: the same is loaded, and the same uses are made
pub record LoadsAlike (a b : Files) : Type 0 where
  pub project : (rules : ToolRules) (defs : List Def) (root : List ℕ) (freezing : Bool)
      → project_of a rules defs root freezing ≡ project_of b rules defs root freezing
  pub uses : (rules : ToolRules) (defs : List Def) (root : List ℕ) → tool_uses a rules defs root ≡ tool_uses b rules defs root

abbrev pub LoadingReadsTheProject : Type 0
LoadingReadsTheProject = (a b : Files) → SameProjectFiles a b → LoadsAlike a b

-- .. so the store may as well not be there
abbrev pub LoadingKnowsNoStore : Type 0
LoadingKnowsNoStore = (files : Files) → LoadsAlike files (project_part files)

-- Over a folder whose records are true, loading over the store as it stands gives the project, or its first refusal, and
-- makes the uses; the files then are those with a record for each use that ran.
abbrev pub LoadsOverTrueRecords : Type 0
LoadsOverTrueRecords = (files : Files) (rules : ToolRules) (defs : List Def) (root : List ℕ) (freezing : Bool)
    → HasTrueRecords files
    → loaded_over files rules defs root freezing
    ≡ outcome (work_of (after_uses files (tool_uses files rules defs root)) (tool_uses files rules defs root))
    (project_of files rules defs root freezing)

-- groups are loaded to any depth: more levels than 513 change nothing
pub record LoadsEachLevel (setting : Setting) : Type 0 where
  pub level : (at : Place) (name : List ℕ) (p : Progress) (work : Work)
      → entered setting at name p work ≡ with_entered setting (entered setting) at name p work
  pub further : (levels : ℕ) (at : Place) (name : List ℕ) (p : Progress) (work : Work) → 513 ≤ levels
      → entered_within setting levels at name p work ≡ entered setting at name p work

abbrev pub LoadingIsWhole : Type 0
LoadingIsWhole = (setting : Setting) → LoadsEachLevel setting
