-- What a loading that uses tools answers and leaves, from any point of it on.
use Rattle.std.specs.Prelude.{ℕ, ◌≡◌, List, Option, Some, map, slice_get, Result, Err}
use Rattle.cm_base.specs.Derived.{ToolRules}
use Rattle.cm_base.specs.Causes.{HasCause, Rose, one_more}
use Rattle.cm_base.specs.Files.{Files}
use Rattle.cm_base.specs.declared.diag.Diag.{Diag}
use Rattle.cm_base.specs.declared.record.Def.{Def}
use Rattle.path_anchors.specs.Names.{Bindings}
use Rattle.tool_deriving.specs.Deriving.{ToolState, tool_state}
use Rattle.tool_deriving.specs.Toolboxes.{rules_of}
use Rattle.member_deriving.specs.Uses.{Outcome, Work, ran_more}
use Rattle.box_deriving.specs.Boxes.{CutOff, InStep, Origin, Went, World, rules_in, world_of}
use Rattle.tool_loading.specs.Projects.{Setting, setting_by, store_means}
use Rattle.group_loader.specs.Answers.{IsGiven, OnFault, OnGiven}
use Rattle.group_loader.specs.declared.fault.LoadFault.{LoadFault}
use Rattle.group_loader.specs.declared.fault.LoadFault.TheVariants as fault

-- ---- where loading stands

-- what the tools of a box tell of themselves
abbrev pub states_by : {A : Type 0} → (A → List ℕ) → (A → List ℕ) → (A → ℕ) → (A → ℕ) → List A → List ToolState
states_by class_of rule_of ran_of faults_of tools =
    map (λ tool. tool_state (class_of tool) (rule_of tool) (ran_of tool) (faults_of tool)) tools

-- a folder and a box as they stand: what the folder tells and its count of faults, and the tools
pub record Scene : Type 0 where
  pub holds : Option Files
  pub faults : ℕ
  pub tools : List ToolState

abbrev pub scene_of : Option Files → ℕ → List ToolState → Scene
scene_of holds faults tools = record { holds = holds; faults = faults; tools = tools }

abbrev pub world_in : Scene → World
world_in scene = world_of scene.holds scene.tools

-- loading begins, with these files and tools
abbrev pub origin_of : Files → List ToolState → Origin
origin_of files tools = record { files = files; tools = tools }

-- the classes and rules by which loading goes are those of the box as it was when loading began
abbrev pub rules_at : Origin → ToolRules
rules_at origin = rules_of (λ tool. tool.class) (λ tool. tool.rule) origin.tools

-- .. and files are read as they stand
abbrev pub setting_at : Origin → List Def → Bindings → Setting
setting_at origin defs anchors = setting_by store_means (rules_at origin) defs anchors

-- ---- what tools tell afterwards

-- a tool of the box ran, so many times and then once more, and its count of faults rose
pub record Failed (old new : List ToolState) : Type 0 where
  pub at : ℕ
  pub before : ToolState
  pub after : ToolState
  pub was : slice_get old at ≡ Some before
  pub is : slice_get new at ≡ Some after
  pub runs : ℕ
  pub ran : after.ran ≡ one_more (ran_more runs before.ran)
  pub rose : Rose before.faults after.faults

-- classes and rules are as they were, each tool went on, and tools are blamed only where one that ran failed
pub record Tends (blamed : Type 0) (old new : List ToolState) : Type 0 where
  pub rules : rules_in new ≡ rules_in old
  pub later : (at : ℕ) (before after : ToolState) → slice_get old at ≡ Some before → slice_get new at ≡ Some after
      → Went before after
  pub cause : blamed → Failed old new

-- ---- what a step answers and leaves

-- what its definition gives, in the world where that leads; after a fault, a front of its uses
pub record StepsTo {A : Type 0} (origin : Origin) (step : Outcome A) (result : Result A LoadFault) (now : World)
    : Type 0 where
  pub gives : IsGiven result step.result
  pub leads : OnGiven result (InStep origin step.work now)
  pub cut : OnFault result (CutOff origin step.work.uses now)

-- The same from any point of a loading at which this step is next; and whatever the folder tells, a fault has its cause
pub record Loads {A : Type 0} (result : Result A LoadFault) (old new : Scene) (step : Origin → Work → Outcome A)
    : Type 0 where
  pub folder : HasCause old.faults new.faults (result ≡ Err fault.Folder)
  pub tools : Tends (result ≡ Err fault.Tool) old.tools new.tools
  pub steps : (origin : Origin) (work : Work) → InStep origin work (world_in old)
      → StepsTo origin (step origin work) result (world_in new)

-- a refusal, or want of memory for it
abbrev pub Refuses : LoadFault → Diag → Type 0
Refuses (fault.Diag diag) refused = diag ≡ refused
Refuses fault.Folder refused = ⊥
Refuses fault.Tool refused = ⊥
Refuses fault.NoMemory refused = Unit {0}
