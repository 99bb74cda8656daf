-- The program's promise where members may be of tools' classes: how a command ends, what it leaves, what was asked, and
-- how often each tool ran. The contract of `run_cm` is made of these and of the causes of a fault.
use Rattle.std.specs.Prelude.{◌≡◌, ◌⊎◌, List}
use Rattle.cm_base.specs.Definitions.{Definitions}
use Rattle.cm_base.specs.Files.{Files}
use Rattle.tool_deriving.specs.Deriving.{ToolState, ToolUse}
use Rattle.use_laws.specs.Left.{RanFor, RanUpTo}
use Rattle.command_parts.specs.Headline.{Ends, FromGood, Run}
use Rattle.command_parts.specs.declared.status.Status.{Status}
use Rattle.command_parts.specs.declared.status.Status.TheVariants as status
use Rattle.cm_top.specs.Meaning.{Meaning}

-- how often the tools ran in a command that ended so: for all its uses that run them, and for a front of these where it
-- was cut off
abbrev pub Ran : Status → List ToolUse → List ToolState → List ToolState → Type 0
Ran status.Ok runs old new = RanFor runs old new
Ran status.Diagnostic runs old new = RanFor runs old new
Ran status.Usage runs old new = RanFor runs old new
Ran status.FolderFault runs old new = RanUpTo runs old new
Ran status.SinkFault runs old new = RanUpTo runs old new
Ran status.NoMemory runs old new = RanUpTo runs old new
Ran status.ToolFault runs old new = RanUpTo runs old new

-- what is promised of a command's end
pub record IsAsPromised (by : Definitions) (files : Files) (m : Meaning) (end : Status) (run : Run)
    (old new : List ToolState) : Type 0 where
  -- It ends as it means; after a fault a front of that is printed and asked for.
  pub ends : FromGood by files m.effect (λ known. Ends end m.effect run)
  -- Each tool ran for its uses that run it, and for no other; after a fault for a front of them.
  pub ran : FromGood by files m.effect (λ known. Ran end m.runs old new)

-- ---- completeness

-- the meaning's status, or want of memory, which no clause ties to a cause
abbrev pub IsComplete : Status → Meaning → Type 0
IsComplete end m = (end ≡ m.effect.status) ⊎ (end ≡ status.NoMemory)

-- from a good store a command whose folder, output and tools met no failure ends as it means, or wants memory
abbrev pub Completes : Definitions → Files → Meaning → Status → Type 0 → Type 0 → Type 0 → Type 0
Completes by files m end folder_failed sink_failed tool_failed =
    (folder_failed → ⊥) → (sink_failed → ⊥) → (tool_failed → ⊥) → FromGood by files m.effect (λ known. IsComplete end m)
