-- Histories of calls of the program, each with the box of tools that it finds, and of changes of the project between
-- them. A call may end as it means, or be cut off by a fault or for want of memory.
use Rattle.std.specs.Prelude.{ℕ, ◌≡◌, false, List, [], Option, Some}
use Rattle.cm_base.specs.Definitions.{Definitions}
use Rattle.cm_base.specs.Files.{Files, is_stored}
use Rattle.tool_deriving.specs.Deriving.{ToolState}
use Rattle.group_loader.specs.Loading.{Tends}
use Rattle.command_parts.specs.Headline.{Run, Stays}
use Rattle.command_parts.specs.declared.status.Status.{Status}
use Rattle.command_parts.specs.declared.status.Status.TheVariants as status
use Rattle.cm_top.specs.Headline.{IsAsPromised}
use Rattle.cm_top.specs.Meaning.{Meaning}
use Rattle.cm_top.specs.Performing.{rules_among}
use Rattle.cm_top.specs.Sessions.{meaning_of_call}
use Rattle.history_laws.specs.Histories.{Effect, edited}

-- a file gets new bytes or is taken away, or the program is called with these tools: so it ends, this it does, so the
-- tools are then, and these files it leaves
pub data Event : Type 0 where
  edit : (path : List ℕ) → (content : Option (List ℕ)) → Event
  call : (words : List (List ℕ)) → (tools : List ToolState) → (end : Status) → (run : Run) → (after : List ToolState)
      → (left : Files) → Event

-- what the words mean in a folder with these tools
abbrev pub meant_with : Definitions → List ToolState → List (List ℕ) → Files → Meaning
meant_with by tools words files = meaning_of_call by (rules_among tools) words files

abbrev pub event_leaves : Files → Event → Files
event_leaves files (edit path content) = edited files path content
event_leaves files (call words tools end run after left) = left

abbrev pub event_interfaces : Definitions → Files → Event → List (List ℕ)
event_interfaces by files (edit path content) = []
event_interfaces by files (call words tools end run after left) = (meant_with by tools words files).effect.interfaces

abbrev pub effect_of_event : Definitions → Effect Event
effect_of_event by = record { leaves = event_leaves; interfaces = event_interfaces by }

-- a call is one of the program where what it did is what the contract of `run_cm` says of it, whatever it answered
pub record IsCall (by : Definitions) (files : Files) (words : List (List ℕ)) (tools : List ToolState) (end : Status)
    (run : Run) (after : List ToolState) (left : Files) : Type 0 where
  pub told : run.holds ≡ Some left
  pub promise : IsAsPromised by files (meant_with by tools words files) end run tools after
  pub stays : Stays by files (meant_with by tools words files).effect run.holds
  pub tends : Tends (end ≡ status.ToolFault) tools after

-- a change is one of the project: nobody but the program writes the store
abbrev pub IsLawfulEvent : Definitions → Files → Event → Type 0
IsLawfulEvent by files (edit path content) = is_stored path ≡ false
IsLawfulEvent by files (call words tools end run after left) = IsCall by files words tools end run after left
