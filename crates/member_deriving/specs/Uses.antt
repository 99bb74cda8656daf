-- Uses of tools one after the other: what they leave, which of them run, and steps of loading that use tools.
use Rattle.std.specs.Prelude.{ℕ, zero, suc, if◌then◌else◌, List, [], ◌∷◌, ◌++◌, Result, Ok, Err}
use Rattle.cm_base.specs.Causes.{one_more}
use Rattle.cm_base.specs.Files.{Files}
use Rattle.cm_base.specs.declared.diag.Diag.{Diag}
use Rattle.tool_deriving.specs.Deriving.{ToolUse, uses, after_use}

-- the files after uses, one after the other: each finds the records that the earlier ones left
abbrev pub after_uses : Files → List ToolUse → Files
after_uses files [] = files
after_uses files (job ∷ jobs) = after_uses (after_use files job) jobs

-- the uses that run their tools, each in the store as it stands at that use
abbrev pub runs_of : Files → List ToolUse → List ToolUse
runs_of files [] = []
runs_of files (job ∷ jobs) =
    if uses files job then job ∷ runs_of (after_use files job) jobs else runs_of (after_use files job) jobs

-- a count of runs after so many more, which stops at the greatest number
abbrev pub ran_more : ℕ → ℕ → ℕ
ran_more zero ran = ran
ran_more (suc more) ran = ran_more more (one_more ran)

-- the work of tools in a loading so far: the files with their records, and the uses in order
pub record Work : Type 0 where
  pub files : Files
  pub uses : List ToolUse

abbrev pub work_of : Files → List ToolUse → Work
work_of files uses = record { files = files; uses = uses }

-- with one use more
abbrev pub with_use : ToolUse → Work → Work
with_use job work = work_of (after_use work.files job) (work.uses ++ job ∷ [])

-- what a step of loading gives or refuses, and the work after it: that of a refused step stands
pub record Outcome (A : Type 0) : Type 0 where
  pub work : Work
  pub result : Result A Diag

abbrev pub outcome : {A : Type 0} → Work → Result A Diag → Outcome A
outcome work result = record { work = work; result = result }

-- a step that uses no tool
abbrev pub rests_with : {A : Type 0} → Result A Diag → Work → Outcome A
rests_with result work = outcome work result

-- one step and then the next, up to the first refusal
abbrev pub goes_on : {A B : Type 0} → Work → Result A Diag → (A → Work → Outcome B) → Outcome B
goes_on work (Ok value) next = next value work
goes_on work (Err diag) next = outcome work (Err diag)

infixl 10 ◌>>◌
abbrev pub ◌>>◌ : {A B : Type 0} → Outcome A → (A → Work → Outcome B) → Outcome B
step >> next = goes_on step.work step.result next
