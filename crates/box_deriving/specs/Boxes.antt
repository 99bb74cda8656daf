-- A folder and a box of tools as they stand, and how far a loading that uses tools has come.
use Rattle.std.specs.Prelude.{ℕ, ◌≡◌, ◌⊎◌, ◌≤◌, true, nat_eq, if◌then◌else◌, List, [], ◌∷◌, ◌++◌, map, slice_get, Option, Some, Result, Ok, Err}
use Rattle.std.specs.Cmp.Lexicographic.{pointwise}
use Rattle.cm_base.specs.Causes.{Rose, one_more}
use Rattle.cm_base.specs.Files.{Files}
use Rattle.cm_base.specs.Keeping.{Touches}
use Rattle.bin_formats.specs.Format.{IsRecord, record_file}
use Rattle.bin_store.specs.Paths.{tool_path}
use Rattle.tool_deriving.specs.Deriving.{ToolState, ToolUse, record_of_use, uses}
use Rattle.member_deriving.specs.Sources.{IsGiven, OnGiven}
use Rattle.member_deriving.specs.Uses.{Outcome, Work, after_uses, ran_more, runs_of, work_of}
use Rattle.member_deriving.specs.declared.fault.MemberFault.{MemberFault}
use Rattle.member_deriving.specs.declared.fault.MemberFault.TheVariants as fault

-- what a folder tells, and the tools of a box
pub record World : Type 0 where
  pub holds : Option Files
  pub tools : List ToolState

abbrev pub world_of : Option Files → List ToolState → World
world_of holds tools = record { holds = holds; tools = tools }

-- the classes of a box with how often each tool ran
abbrev pub Counts : Type 0
Counts = List (List ℕ × ℕ)

abbrev pub counts_of : List ToolState → Counts
counts_of tools = map (λ (tool : ToolState). (tool.class, tool.ran)) tools

-- .. and with their rules
abbrev pub rules_in : List ToolState → List (List ℕ × List ℕ)
rules_in tools = map (λ (tool : ToolState). (tool.class, tool.rule)) tools

-- the first tool of a class ran once more
abbrev pub one_run : List ℕ → Counts → Counts
one_run class [] = []
one_run class (tool ∷ tools) =
    if pointwise nat_eq tool.0 class then (tool.0, one_more tool.1) ∷ tools else tool ∷ one_run class tools

-- .. and for each of these uses
abbrev pub after_runs : List ToolUse → Counts → Counts
after_runs [] counts = counts
after_runs (job ∷ jobs) counts = after_runs jobs (one_run job.class counts)

-- what stood when loading began
pub record Origin : Type 0 where
  pub files : Files
  pub tools : List ToolState

-- the world is where this work of tools brought it: the files have a record for each use that ran, each tool ran as often
-- as its uses ran it, and classes and rules are as they were
pub record InStep (origin : Origin) (work : Work) (now : World) : Type 0 where
  pub holds : now.holds ≡ Some work.files
  pub made : work.files ≡ after_uses origin.files work.uses
  pub ran : counts_of now.tools ≡ after_runs (runs_of origin.files work.uses) (counts_of origin.tools)
  pub rules : rules_in now.tools ≡ rules_in origin.tools

-- a use that runs its tool is under way behind some whole ones: the tool ran once more or not yet, and at its record's
-- path stand the old bytes, nothing, or a front of the record, which has a spelling where anything changed
pub record UnderWay (origin : Origin) (front : List ToolUse) (job : ToolUse) (now : World) : Type 0 where
  pub leaves : (now.holds ≡ Some (after_uses origin.files front))
      ⊎ Touches (Some (after_uses origin.files front)) now.holds (tool_path job.unit) (record_file (record_of_use job))
  pub runs : uses (after_uses origin.files front) job ≡ true
  pub fits : (now.holds ≡ Some (after_uses origin.files front)) ⊎ IsRecord (record_of_use job)
  pub ran : (counts_of now.tools ≡ after_runs (runs_of origin.files front) (counts_of origin.tools))
      ⊎ (counts_of now.tools ≡ one_run job.class (after_runs (runs_of origin.files front) (counts_of origin.tools)))

-- .. or between two uses
abbrev pub Reached : Origin → List ToolUse → List ToolUse → World → Type 0
Reached origin front [] now = InStep origin (work_of (after_uses origin.files front) front) now
Reached origin front (job ∷ rest) now =
    InStep origin (work_of (after_uses origin.files front) front) now ⊎ UnderWay origin front job now

-- a loading that these uses would have made was cut off: after a front of them
pub record CutOff (origin : Origin) (uses : List ToolUse) (now : World) : Type 0 where
  pub front : List ToolUse
  pub rest : List ToolUse
  pub all : uses ≡ front ++ rest
  pub reached : Reached origin front rest now

-- a tool of the box ran once more, and failed
pub record Failed (old new : List ToolState) : Type 0 where
  pub at : ℕ
  pub before : ToolState
  pub after : ToolState
  pub was : slice_get old at ≡ Some before
  pub is : slice_get new at ≡ Some after
  pub ran : after.ran ≡ one_more before.ran
  pub rose : Rose before.faults after.faults

-- a tool ran so many times, and its count of faults didn't fall
pub record Went (before after : ToolState) : Type 0 where
  pub runs : ℕ
  pub ran : after.ran ≡ ran_more runs before.ran
  pub faults : before.faults ≤ after.faults

-- what a call that uses tools leaves of a box whatever it answers: classes and rules are as they were, no count of faults
-- fell, and a tool is blamed only where one that this call ran failed
pub record Tends (result : Result (List ℕ) MemberFault) (old new : List ToolState) : Type 0 where
  pub rules : rules_in new ≡ rules_in old
  pub later : (at : ℕ) (before after : ToolState) → slice_get old at ≡ Some before → slice_get new at ≡ Some after
      → Went before after
  pub blamed : result ≡ Err fault.Tool → Failed old new

-- what holds after a fault
abbrev pub OnFault : Result (List ℕ) MemberFault → Type 0 → Type 0
OnFault (Ok text) so = Unit {0}
OnFault (Err (fault.Diag diag)) so = Unit {0}
OnFault (Err fault.Folder) so = so
OnFault (Err fault.Tool) so = so
OnFault (Err fault.NoMemory) so = so

-- what a step that derives a source answers and leaves, from any point of a loading: what its definition gives, where that
-- leads; after a fault a front of its uses
pub record StepsOn (origin : Origin) (work : Work) (step : Outcome (List ℕ)) (result : Result (List ℕ) MemberFault)
    (now : World) : Type 0 where
  pub gives : IsGiven result step.result
  pub leads : OnGiven result (InStep origin step.work now)
  pub cut : OnFault result (CutOff origin step.work.uses now)
