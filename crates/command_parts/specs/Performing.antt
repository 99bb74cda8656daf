-- What is done of a meaning between two states of the folder, the output and the compiler: all that the program promises
-- of a call, in one piece, so that pieces can be put one behind the other.
use Rattle.std.specs.Prelude.{ℕ, ◌≡◌, Bool, true, false, List, Option, Some, Result, Ok, Err}
use Rattle.cm_base.specs.Definitions.{Definitions}
use Rattle.cm_base.specs.Files.{Files, Told}
use Rattle.cm_base.specs.Keeping.{Keeps}
use Rattle.cm_base.specs.declared.fault.FolderFault.{FolderFault}
use Rattle.cm_base.specs.declared.fault.FolderFault.TheVariants as folder
use Rattle.command_parts.specs.Headline.{Ends, FromGood, IsAsPromised, IsPlain, KeepsOutside, Run, Stays, run_of}
use Rattle.command_parts.specs.Meaning.{Meaning}
use Rattle.command_parts.specs.declared.status.Status.{Status}
use Rattle.command_parts.specs.declared.status.Status.TheVariants as status

-- what the output has, what the folder holds, and what the compiler was asked
pub record State : Type 0 where
  pub written : Option (List ℕ)
  pub holds : Option Files
  pub asked : List (List ℕ)
  pub skeletons : List (List ℕ)

abbrev pub state_of : Option (List ℕ) → Option Files → List (List ℕ) → List (List ℕ) → State
state_of written holds asked skeletons =
    record { written = written; holds = holds; asked = asked; skeletons = skeletons }

abbrev pub between : List ℕ → State → State → Run
between text before after =
    run_of text after.written after.holds before.asked after.asked before.skeletons after.skeletons

-- the statuses of a session, and of a refusal: never that its words mean nothing
abbrev pub IsSessionEnd : Status → Type 0
IsSessionEnd status.Ok = Unit {0}
IsSessionEnd status.Diagnostic = Unit {0}
IsSessionEnd status.Usage = ⊥
IsSessionEnd status.FolderFault = Unit {0}
IsSessionEnd status.SinkFault = Unit {0}
IsSessionEnd status.NoMemory = Unit {0}
IsSessionEnd status.ToolFault = ⊥

-- whether a command met no fault
abbrev pub is_plain : Status → Bool
is_plain status.Ok = true
is_plain status.Diagnostic = true
is_plain status.Usage = true
is_plain status.FolderFault = false
is_plain status.SinkFault = false
is_plain status.NoMemory = false
is_plain status.ToolFault = false

-- how an edit ends, by the folder's answer
abbrev pub edit_end : Result (Unit {0}) FolderFault → Status
edit_end (Ok done) = status.Ok
edit_end (Err folder.Failed) = status.FolderFault
edit_end (Err folder.NoMemory) = status.NoMemory

-- where no fault came, it ends with the status of the meaning, and the folder holds its files
pub record Leaves (end : Status) (by : Definitions) (files : Files) (doing meant : Meaning) (holds : Option Files)
    : Type 0 where
  pub ends : end ≡ doing.status
  pub does : holds ≡ Some doing.files
  pub promise_ends : FromGood by files meant (λ known. end ≡ meant.status)
  pub promise : FromGood by files meant (λ known. holds ≡ Some meant.files)

abbrev pub LeavesAt : Status → Definitions → Files → Meaning → Meaning → Option Files → Type 0
LeavesAt end by files doing meant holds = IsPlain end → Leaves end by files doing meant holds

-- what is done over a store as it stands, and what is meant, each by the files at entry
pub record Performs (by : Definitions) (doing meant : Files → Meaning) (end : Status) (before after : State) : Type 0 where
  pub does : Told before.holds (λ files. Told before.written (λ text.
      Ends end (doing files) (between text before after)))
  pub promise : Told before.holds (λ files. Told before.written (λ text.
      IsAsPromised by files (meant files) end (between text before after)))
  pub frame : Told before.holds (λ files. Keeps (Some files) after.holds (doing files).paths)
  pub outside : Told before.holds (λ files. KeepsOutside (doing files).outside files after.holds)
  pub stays : Told before.holds (λ files. Stays by files (meant files) after.holds)
  pub leaves : Told before.holds (λ files. LeavesAt end by files (doing files) (meant files) after.holds)
