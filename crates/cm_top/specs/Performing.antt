-- What is done of a meaning between two states of the folder, the output, the compiler and the tools: all that the program
-- promises of a call, in one piece, so that pieces can be put one behind the other.
use Rattle.std.specs.Prelude.{ℕ, ◌≡◌, List, Option}
use Rattle.cm_base.specs.Definitions.{Definitions}
use Rattle.cm_base.specs.Derived.{ToolRules}
use Rattle.cm_base.specs.Files.{Files, Told}
use Rattle.tool_deriving.specs.Deriving.{ToolState}
use Rattle.tool_deriving.specs.Toolboxes.{rules_of}
use Rattle.group_loader.specs.Loading.{Tends}
use Rattle.command_parts.specs.Headline.{FromGood}
use Rattle.command_parts.specs.Performing.{State, state_of}
use Rattle.command_parts.specs.Performing as plain
use Rattle.command_parts.specs.declared.status.Status.{Status}
use Rattle.command_parts.specs.declared.status.Status.TheVariants as status
use Rattle.cm_top.specs.Headline.{Ran}
use Rattle.cm_top.specs.Meaning.{Meaning}

-- what the output, the folder and the compiler tell, and the tools of the box
pub record Stage : Type 0 where
  pub state : State
  pub tools : List ToolState

abbrev pub stage_of : Option (List ℕ) → Option Files → List (List ℕ) → List (List ℕ) → List ToolState → Stage
stage_of written holds asked skeletons tools = record { state = state_of written holds asked skeletons; tools = tools }

-- the classes and rules of the tools of a box
abbrev pub rules_among : List ToolState → ToolRules
rules_among tools = rules_of (λ tool. tool.class) (λ tool. tool.rule) tools

-- the statuses of a step of a session: well, or a fault
abbrev pub IsStepEnd : Status → Type 0
IsStepEnd status.Ok = Unit {0}
IsStepEnd status.Diagnostic = ⊥
IsStepEnd status.Usage = ⊥
IsStepEnd status.FolderFault = Unit {0}
IsStepEnd status.SinkFault = Unit {0}
IsStepEnd status.NoMemory = Unit {0}
IsStepEnd status.ToolFault = Unit {0}

-- .. of a command, of a session, and of a generated project: never that its words mean nothing
abbrev pub IsSessionEnd : Status → Type 0
IsSessionEnd status.Ok = Unit {0}
IsSessionEnd status.Diagnostic = Unit {0}
IsSessionEnd status.Usage = ⊥
IsSessionEnd status.FolderFault = Unit {0}
IsSessionEnd status.SinkFault = Unit {0}
IsSessionEnd status.NoMemory = Unit {0}
IsSessionEnd status.ToolFault = Unit {0}

-- what is done over a store as it stands, and what is meant, each by the files at entry: all but the tools as where there
-- are none; a tool is blamed only where one that this call ran failed; and each tool ran for its uses that run it
pub record Does (by : Definitions) (doing meant : Files → Meaning) (end : Status) (before after : Stage) : Type 0 where
  pub effect : plain.Performs by (λ files. (doing files).effect) (λ files. (meant files).effect) end before.state
      after.state
  pub tools : Tends (end ≡ status.ToolFault) before.tools after.tools
  pub runs : Told before.state.holds (λ files. Ran end (doing files).runs before.tools after.tools)
  pub promise : Told before.state.holds (λ files. FromGood by files (meant files).effect
      (λ known. Ran end (meant files).runs before.tools after.tools))

-- .. by the classes and rules of the box as it stands
abbrev pub Performs : Definitions → (ToolRules → Files → Meaning) → (ToolRules → Files → Meaning) → Status → Stage
    → Stage → Type 0
Performs by doing meant end before after =
    Does by (doing (rules_among before.tools)) (meant (rules_among before.tools)) end before after
