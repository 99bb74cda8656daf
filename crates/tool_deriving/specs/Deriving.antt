-- A use of a tool: when it runs, and what it answers and leaves.
use Rattle.std.specs.Prelude.{ℕ, ◌≡◌, ◌⊎◌, ◌≤◌, ◌&&◌, Bool, true, false, not, is_some, nat_eq, if◌then◌else◌, List, length, Option, None, Some, Result, Ok, Err, IfOk, OnOk, unwrap_or}
use Rattle.std.specs.Cmp.Lexicographic.{pointwise}
use Rattle.cm_base.specs.Causes.{HasCause, one_more}
use Rattle.cm_base.specs.Derived.{derived_text}
use Rattle.cm_base.specs.Files.{Files, Told, told}
use Rattle.cm_base.specs.Keeping.{Touches}
use Rattle.bin_formats.specs.declared.bin.ToolRecord.{ToolRecord}
use Rattle.bin_formats.specs.Format.{IsRecord, record_file}
use Rattle.bin_store.specs.Paths.{tool_path}
use Rattle.tool_records.specs.Stored.{stored_record, with_record, HasTrueRecord}
use Rattle.tool_deriving.specs.declared.fault.DeriveFault.{DeriveFault}
use Rattle.tool_deriving.specs.declared.fault.DeriveFault.TheVariants as fault

-- a use of a tool: the unit that it makes, the class and the rule of the tool, and the input
pub record ToolUse : Type 0 where
  pub unit : List ℕ
  pub class : List ℕ
  pub rule : List ℕ
  pub input : List ℕ

abbrev pub tool_use : List ℕ → List ℕ → List ℕ → List ℕ → ToolUse
tool_use class rule unit input = record { unit = unit; class = class; rule = rule; input = input }

-- the text of a use
unfoldable pub text_of_use : ToolUse → List ℕ
text_of_use job = derived_text job.rule job.unit job.input

-- the record of a use with an output
abbrev pub record_with : ToolUse → List ℕ → ToolRecord
record_with job output = record {
  unit = job.unit;
  class = job.class;
  rule = job.rule;
  input = job.input;
  output = output;
}

-- .. with its text
abbrev pub record_of_use : ToolUse → ToolRecord
record_of_use job = record_with job (text_of_use job)

-- the output of a record, where it is one of the same class, rule and input
abbrev pub served : ToolUse → Option ToolRecord → Option (List ℕ)
served job None = None
served job (Some run) =
    if pointwise nat_eq run.class job.class
    && (pointwise nat_eq run.rule job.rule && pointwise nat_eq run.input job.input)
    then Some run.output else None

-- what the store has for a use
unfoldable pub stored_output : Files → ToolUse → Option (List ℕ)
stored_output files job = served job (stored_record files job.unit)

-- whether the tool runs: no whole record of the unit has the same class, rule and input
abbrev pub uses : Files → ToolUse → Bool
uses files job = not (is_some (stored_output files job))

-- the folder after a use
abbrev pub after_use : Files → ToolUse → Files
after_use files job = if uses files job then with_record files (record_of_use job) else files

-- the text that a use gives over a store as it stands: the output that the store has for it, or else its text
abbrev pub text_over : Files → ToolUse → List ℕ
text_over files job = unwrap_or (stored_output files job) (text_of_use job)

-- a count of runs after one that is made or not
abbrev pub ran_after : Bool → ℕ → ℕ
ran_after true ran = one_more ran
ran_after false ran = ran

-- the sizes of a use
pub record IsSmallUse (job : ToolUse) : Type 0 where
  pub unit : length job.unit ≤ 1048576
  pub class : length job.class ≤ 1048581
  pub rule : length job.rule ≤ 1048581
  pub input : length job.input ≤ 1048576

-- what a use answers and leaves in a folder that tells its files: its text over the store as it stands; one run more
-- exactly where it runs; and then the record. Where it doesn't run, nothing changes, whatever it answers
pub record Derives (job : ToolUse) (result : Result (List ℕ) DeriveFault) (old new : Option Files) (ran now : ℕ)
    : Type 0 where
  pub text : Told old (λ files. IfOk result (λ text. text ≡ text_over files job))
  pub runs : Told old (λ files. OnOk result (now ≡ ran_after (uses files job) ran))
  pub puts : Told old (λ files. OnOk result (new ≡ Some (after_use files job)))
  pub rests : Told old (λ files. uses files job ≡ false → (now ≡ ran) × (new ≡ old))

-- what it leaves whatever it answers: at most one run more, and at the record's path the old bytes, nothing or a front
-- of the record, which has a spelling where anything changed; a tool that fails ran, and nothing is written
pub record LeavesUse (job : ToolUse) (result : Result (List ℕ) DeriveFault) (old new : Option Files) (ran now : ℕ)
    : Type 0 where
  pub once : (now ≡ ran) ⊎ (now ≡ one_more ran)
  pub leaves : (new ≡ old) ⊎ Touches old new (tool_path job.unit) (record_file (record_of_use job))
  pub fits : (new ≡ old) ⊎ IsRecord (record_of_use job)
  pub failed : result ≡ Err fault.Tool → (now ≡ one_more ran) × (new ≡ old)

-- what a tool tells of itself
pub record ToolState : Type 0 where
  pub class : List ℕ
  pub rule : List ℕ
  pub ran : ℕ
  pub faults : ℕ

abbrev pub tool_state : List ℕ → List ℕ → ℕ → ℕ → ToolState
tool_state class rule ran faults = record { class = class; rule = rule; ran = ran; faults = faults }

-- the use that a tool of this state makes of a unit and an input
abbrev pub use_by : ToolState → List ℕ → List ℕ → ToolUse
use_by state unit input = tool_use state.class state.rule unit input

-- all that is promised of a use by a tool: its cause of failing, its class and rule as they were, and the above
pub record DerivesBy (old new : ToolState) (unit input : List ℕ) (result : Result (List ℕ) DeriveFault)
    (before after : Option Files) : Type 0 where
  pub cause : HasCause old.faults new.faults (result ≡ Err fault.Tool)
  pub class : new.class ≡ old.class
  pub rule : new.rule ≡ old.rule
  pub derives : Derives (use_by old unit input) result before after old.ran new.ran
  pub leaves : LeavesUse (use_by old unit input) result before after old.ran new.ran

-- a use that follows one of the same tool, unit and input finds its record, whatever became of the text
abbrev pub SecondUseRests : Type 0
SecondUseRests = (files : Files) (job : ToolUse) → IsSmallUse job → uses (after_use files job) job ≡ false

-- where the unit's record, if it has one, is true, the text over the store is the text that the rule derives
abbrev pub TrueRecordsGiveTheText : Type 0
TrueRecordsGiveTheText = (files : Files) (job : ToolUse) → HasTrueRecord files job.unit
    → text_over files job ≡ text_of_use job

-- .. and a use leaves the records of all units true
abbrev pub UsesKeepRecordsTrue : Type 0
UsesKeepRecordsTrue = (files : Files) (job : ToolUse) (unit : List ℕ) → HasTrueRecord files unit
    → HasTrueRecord (after_use files job) unit

-- ---- one run, without a look at the store

-- what a run answers and leaves: the text and its record, after one run more; after a fault nothing, or what a put of
-- the record leaves
abbrev pub RunsOnce : ToolUse → Result (List ℕ) DeriveFault → Option Files → Option Files → ℕ → ℕ → Type 0
RunsOnce job (Ok text) old new ran now =
    (text ≡ text_of_use job) × (now ≡ one_more ran) × (new ≡ told (λ files. with_record files (record_of_use job)) old)
RunsOnce job (Err fault.Tool) old new ran now = (now ≡ one_more ran) × (new ≡ old)
RunsOnce job (Err fault.Folder) old new ran now =
    (now ≡ one_more ran) × ((new ≡ old) ⊎ Touches old new (tool_path job.unit) (record_file (record_of_use job)))
RunsOnce job (Err fault.NoMemory) old new ran now =
    ((now ≡ ran) ⊎ (now ≡ one_more ran))
    × ((new ≡ old) ⊎ Touches old new (tool_path job.unit) (record_file (record_of_use job)))
