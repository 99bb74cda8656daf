-- What the program's calls answer, by cases on their results.
use Rattle.std.specs.Prelude.{ℕ, ◌≡◌, ◌⊎◌, false, List, ◌++◌, Option, Some, None, Result, Ok, Err, take}
use Rattle.std.specs.FinMap.{insert}
use Rattle.cm_base.specs.Definitions.{Definitions}
use Rattle.cm_base.specs.Files.{Files, is_stored, told}
use Rattle.cm_base.specs.Fronts.{GrowsUpTo}
use Rattle.cm_base.specs.Keeping.{Keeps, Touches}
use Rattle.cm_base.specs.declared.diag.Diag.{Diag}
use Rattle.cm_base.specs.declared.record.BuiltUnit.{BuiltUnit}
use Rattle.cm_base.specs.declared.record.PlannedUnit.{PlannedUnit}
use Rattle.cm_bytes.specs.Hashes.{HashesApart}
use Rattle.bin_store.specs.GoodStore.{IsGoodStore, StoreIsGood}
use Rattle.bin_store.specs.Paths.{linked_path}
use Rattle.linker.specs.Linked.{linked_program}
use Rattle.build_laws.specs.CutBuild.{Cut}
use Rattle.build_laws.specs.Planned.{HaveSkeletons}
use Rattle.command_parts.specs.Headline.{KeepsOthers, MeansLinked}
use Rattle.command_parts.specs.Lines.{last_line, report as report_text}
use Rattle.command_parts.specs.Meaning.{ended_in, interfaces_in, status_of, with_linked, written_paths}
use Rattle.command_parts.specs.ProjectBuild.{built, plain_over, store_over}
use Rattle.command_parts.specs.declared.status.Status.{Status}
use Rattle.command_parts.specs.declared.status.Status.TheVariants as status
use Rattle.command_parts.specs.declared.work.Report.{Report}
use Rattle.command_parts.specs.declared.work.WorkFault.{WorkFault}

-- the statuses of a report
abbrev pub IsReported : Status → Type 0
IsReported status.Ok = Unit {0}
IsReported status.Diagnostic = Unit {0}
IsReported status.Usage = ⊥
IsReported status.FolderFault = ⊥
IsReported status.SinkFault = ⊥
IsReported status.NoMemory = ⊥
IsReported status.ToolFault = ⊥

-- ---- linking

-- the linked program: the diagnostic of its size if there is one, and the files with it
abbrev pub LinksTo : Result (Option Diag) WorkFault → Option Diag → Files → Option Files → Type 0
LinksTo (Ok ended) fault files holds = (ended ≡ fault) × (holds ≡ Some files)
LinksTo (Err fault') fault files holds = Unit {0}

-- whatever a write of these bytes leaves stands at the target, if there is one
abbrev pub TouchesTarget : Option (List ℕ) → List ℕ → Option Files → Option Files → Type 0
TouchesTarget None bytes old new = new ≡ old
TouchesTarget (Some path) bytes old new = Touches old new path bytes

-- .. at the linked program's path; and once they are written there, at the target
pub record WritesLinked (target : Option (List ℕ)) (bytes : List ℕ) (old new : Option Files) : Type 0 where
  pub between : Option Files
  pub linked : Touches old between linked_path bytes
  pub added : TouchesTarget target bytes between new
  pub order : (new ≡ between) ⊎ (between ≡ told (λ files. insert files linked_path bytes) old)

-- the linked program of units: it isn't written, or whatever its writes leave stands there, and then there is no
-- diagnostic
pub record LinkLeaves (target : Option (List ℕ)) (fault : Option Diag) (units : List BuiltUnit) (old new : Option Files) :
    Type 0 where
  pub well : fault ≡ None
  pub writes : WritesLinked target (linked_program units) old new

abbrev pub TouchesLinked : Option (List ℕ) → Option Diag → List BuiltUnit → Option Files → Option Files → Type 0
TouchesLinked target fault units old new = (new ≡ old) ⊎ LinkLeaves target fault units old new

-- the linked program of a build
abbrev pub IsLinkedBy : Option (List ℕ) → Cut → List ℕ → Type 0
IsLinkedBy target cut =
    MeansLinked (status_of (ended_in cut)) (with_linked target (ended_in cut) cut.units cut.files)

-- a target lies outside the store
abbrev pub IsOutside : Option (List ℕ) → Type 0
IsOutside None = Unit {0}
IsOutside (Some path) = is_stored path ≡ false

-- ---- builds

-- the report of a build with its last line, and the files with its linked program
pub record Reports (target : Option (List ℕ)) (report : Report) (cut : Cut) (holds : Option Files) : Type 0 where
  pub status : report.status ≡ status_of (ended_in cut)
  pub text : report.text ≡ report_text cut.units (ended_in cut)
  pub last : report.last ≡ last_line cut.units (ended_in cut)
  pub files : holds ≡ Some (with_linked target (ended_in cut) cut.units cut.files)

abbrev pub EndsSo : Option (List ℕ) → Result Report WorkFault → Cut → Option Files → Type 0
EndsSo target (Ok report) cut holds = Reports target report cut holds
EndsSo target (Err fault) cut holds = Unit {0}

-- what is asked for was asked for, or a front of it where the work was cut off
abbrev pub AsksFor : Result Report WorkFault → List (List ℕ) → List (List ℕ) → List (List ℕ) → Type 0
AsksFor (Ok report) asked before after = after ≡ before ++ asked
AsksFor (Err fault) asked before after = GrowsUpTo before after asked

-- from a good store this is asked for
abbrev pub AsksFromGood : Definitions → Files → Result Report WorkFault → List (List ℕ) → List (List ℕ)
    → List (List ℕ) → Type 0
AsksFromGood by files result asked before after =
    (known : List (List ℕ)) → IsGoodStore by known files → AsksFor result asked before after

-- in a good store each unit to build has the compiler's skeleton
abbrev pub LawfulFromGood : Definitions → Files → List PlannedUnit → Type 0
LawfulFromGood by files planned =
    (known : List (List ℕ)) → IsGoodStore by known files → HaveSkeletons by.skel planned

-- the work of a command is a build: its report and its files, and the units that the compiler was asked for
pub record Works (target : Option (List ℕ)) (result : Result Report WorkFault) (cut : Cut) (holds : Option Files)
    (before after : List (List ℕ)) : Type 0 where
  pub ends : EndsSo target result cut holds
  pub asks : AsksFor result cut.asked before after

-- .. from a good store: its paths alone are written, and the store stays good, whatever the answer
pub record WorksWell (by : Definitions) (known : List (List ℕ)) (files : Files) (target : Option (List ℕ))
    (result : Result Report WorkFault) (cut : Cut) (holds : Option Files) (before after : List (List ℕ)) : Type 0 where
  pub works : Works target result cut holds before after
  pub frame : Keeps (Some files) holds (written_paths target cut)
  pub good : StoreIsGood by (known ++ interfaces_in cut.units) holds

-- The work that builds units, unless a refusal comes first. Over the store as it stands it builds what is planned with
-- that store's skeletons, and writes its paths alone, whatever the answer. From a good store it builds what is planned
-- with the compiler's. And whatever the store holds, outside it nothing changes but the target.
pub record Does (by : Definitions) (files : Files) (target : Option (List ℕ)) (over plain : Result (List PlannedUnit) Diag)
    (result : Result Report WorkFault) (holds : Option Files) (before after : List (List ℕ)) : Type 0 where
  pub over_store : Works target result (built (store_over by) files over) holds before after
  pub frame : Keeps (Some files) holds (written_paths target (built (store_over by) files over))
  pub from_good : (known : List (List ℕ))
      → HashesApart (known ++ interfaces_in (built (plain_over by) files plain).units) → IsGoodStore by known files
      → WorksWell by known files target result (built (plain_over by) files plain) holds before after
  pub project : KeepsOthers (IsLinkedBy target (built (store_over by) files over)) target files holds

-- ---- printing

-- printing: the whole text and the status, or a front of the text where the output failed, or nothing
abbrev pub Prints : Status → Status → Option (List ℕ) → Option (List ℕ) → List ℕ → Type 0
Prints status.SinkFault plain old new text = (n : ℕ) × (new ≡ told (λ written. written ++ take n text) old)
Prints status.NoMemory plain old new text = new ≡ old
Prints status.Ok plain old new text = (plain ≡ status.Ok) × (new ≡ told (λ written. written ++ text) old)
Prints status.Diagnostic plain old new text = (plain ≡ status.Diagnostic) × (new ≡ told (λ written. written ++ text) old)
Prints status.Usage plain old new text = (plain ≡ status.Usage) × (new ≡ told (λ written. written ++ text) old)
Prints status.FolderFault plain old new text = ⊥
Prints status.ToolFault plain old new text = ⊥
