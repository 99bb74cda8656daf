-- The source of a member by a use of a tool, and what the call that derives it answers and leaves.
use Rattle.std.specs.Prelude.{ℕ, ◌≡◌, ◌⊎◌, nat_lt, if◌then◌else◌, List, [], length, Option, Some, Result, Ok, Err}
use Rattle.cm_base.specs.Causes.{HasCause, one_more}
use Rattle.cm_base.specs.Diags.{whole_file}
use Rattle.cm_base.specs.Files.{Files, Told}
use Rattle.cm_base.specs.Keeping.{Touches}
use Rattle.cm_base.specs.declared.diag.Diag.{Diag}
use Rattle.bin_formats.specs.Format.{IsRecord, record_file}
use Rattle.bin_store.specs.Paths.{tool_path}
use Rattle.tool_deriving.specs.Deriving.{ToolUse, ToolState, text_of_use, text_over, record_of_use, use_by}
use Rattle.member_deriving.specs.Uses.{Outcome, Work, outcome, ran_more, runs_of, with_use, work_of}
use Rattle.member_deriving.specs.declared.fault.MemberFault.{MemberFault}
use Rattle.member_deriving.specs.declared.fault.MemberFault.TheVariants as fault

-- ---- definitions

-- how the text of a use comes: from the tool's rule alone, or over the store as it stands at that use
abbrev pub Texts : Type 0
Texts = Files → ToolUse → List ℕ

abbrev pub texts_by_rules : Texts
texts_by_rules files job = text_of_use job

abbrev pub texts_over_stores : Texts
texts_over_stores files job = text_over files job

-- 12 on a unit, where a text has more than 1,048,576 bytes
abbrev pub within_source : List ℕ → List ℕ → Result (Unit {0}) Diag
within_source unit text = if nat_lt 1048576 (length text) then Err (whole_file 12 unit) else Ok tt

-- a text that isn't too large
abbrev pub if_within : Result (Unit {0}) Diag → List ℕ → Result (List ℕ) Diag
if_within (Ok within) text = Ok text
if_within (Err diag) text = Err diag

-- the source that a use gives: an input that is too large is refused before the use; a text that is too large is refused
-- after it
abbrev pub used_within : Result (Unit {0}) Diag → Texts → ToolUse → Work → Outcome (List ℕ)
used_within (Err diag) texts job work = outcome work (Err diag)
used_within (Ok within) texts job work =
    outcome (with_use job work) (if_within (within_source job.unit (texts work.files job)) (texts work.files job))

abbrev pub source_by : Texts → ToolUse → Work → Outcome (List ℕ)
source_by texts job work = used_within (within_source job.unit job.input) texts job work

-- ---- what the call answers

-- an answer that isn't a fault: the source, or the refusal
abbrev pub IsGiven : Result (List ℕ) MemberFault → Result (List ℕ) Diag → Type 0
IsGiven (Ok text) given = given ≡ Ok text
IsGiven (Err (fault.Diag diag)) given = given ≡ Err diag
IsGiven (Err fault.Folder) given = Unit {0}
IsGiven (Err fault.Tool) given = Unit {0}
IsGiven (Err fault.NoMemory) given = Unit {0}

-- .. and what holds then
abbrev pub OnGiven : Result (List ℕ) MemberFault → Type 0 → Type 0
OnGiven (Ok text) so = so
OnGiven (Err (fault.Diag diag)) so = so
OnGiven (Err fault.Folder) so = Unit {0}
OnGiven (Err fault.Tool) so = Unit {0}
OnGiven (Err fault.NoMemory) so = Unit {0}

-- in a folder that tells its files: the source over the store as it stands, or its refusal; then the files have the
-- record where the tool ran, and it ran once more exactly there. Where no run is meant, nothing changes, whatever the
-- answer
pub record Sources (job : ToolUse) (result : Result (List ℕ) MemberFault) (old new : Option Files) (ran now : ℕ)
    : Type 0 where
  pub gives : Told old (λ files. IsGiven result (source_by texts_over_stores job (work_of files [])).result)
  pub puts : Told old (λ files. OnGiven result
      (new ≡ Some (source_by texts_over_stores job (work_of files [])).work.files))
  pub runs : Told old (λ files. OnGiven result
      (now ≡ ran_more (length (runs_of files (source_by texts_over_stores job (work_of files [])).work.uses)) ran))
  pub rests : Told old (λ files. runs_of files (source_by texts_over_stores job (work_of files [])).work.uses ≡ []
      → (now ≡ ran) × (new ≡ old))

-- whatever it answers: at most one run more, and at the record's path the old bytes, nothing or a front of the record,
-- which has a spelling where anything changed; a tool that fails ran, and nothing is written
pub record LeavesMember (job : ToolUse) (result : Result (List ℕ) MemberFault) (old new : Option Files) (ran now : ℕ)
    : Type 0 where
  pub once : (now ≡ ran) ⊎ (now ≡ one_more ran)
  pub leaves : (new ≡ old) ⊎ Touches old new (tool_path job.unit) (record_file (record_of_use job))
  pub fits : (new ≡ old) ⊎ IsRecord (record_of_use job)
  pub failed : result ≡ Err fault.Tool → (now ≡ one_more ran) × (new ≡ old)

-- all that is promised of a member's use of a tool
pub record SourcesBy (old new : ToolState) (unit input : List ℕ) (result : Result (List ℕ) MemberFault)
    (before after : Option Files) : Type 0 where
  pub cause : HasCause old.faults new.faults (result ≡ Err fault.Tool)
  pub class : new.class ≡ old.class
  pub rule : new.rule ≡ old.rule
  pub sources : Sources (use_by old unit input) result before after old.ran new.ran
  pub leaves : LeavesMember (use_by old unit input) result before after old.ran new.ran
