-- The faults of loading with tools, and what a call answers, by cases on its result.
use Rattle.std.specs.Prelude.{◌≡◌, Result, Ok, Err}
use Rattle.cm_base.specs.declared.diag.Diag.{Diag}
use Rattle.cm_base.specs.declared.fault.Fault.{Fault}
use Rattle.cm_base.specs.declared.fault.Fault.TheVariants as refusal
use Rattle.member_deriving.specs.declared.fault.MemberFault.{MemberFault}
use Rattle.member_deriving.specs.declared.fault.MemberFault.TheVariants as member
use Rattle.loader_parts.specs.declared.fault.ReadFault.{ReadFault}
use Rattle.loader_parts.specs.declared.fault.ReadFault.TheVariants as plain
use Rattle.project_checks.specs.declared.progress.Progress.{Progress}
use Rattle.group_loader.specs.declared.fault.LoadFault.{LoadFault}
use Rattle.group_loader.specs.declared.fault.LoadFault.TheVariants as fault

-- a refusal is one of loading
abbrev pub of_refusal : Fault → LoadFault
of_refusal (refusal.Diag diag) = fault.Diag diag
of_refusal refusal.NoMemory = fault.NoMemory

-- .. so is a fault of a step that uses no tool
abbrev pub of_plain : ReadFault → LoadFault
of_plain (plain.Diag diag) = fault.Diag diag
of_plain plain.Folder = fault.Folder
of_plain plain.NoMemory = fault.NoMemory

-- .. and that of a member's source
abbrev pub of_member : MemberFault → LoadFault
of_member (member.Diag diag) = fault.Diag diag
of_member member.Folder = fault.Folder
of_member member.Tool = fault.Tool
of_member member.NoMemory = fault.NoMemory

-- the same of results
abbrev pub as_refused : {A : Type 0} → Result A Fault → Result A LoadFault
as_refused (Ok value) = Ok value
as_refused (Err error) = Err (of_refusal error)

abbrev pub as_plain : {A : Type 0} → Result A ReadFault → Result A LoadFault
as_plain (Ok value) = Ok value
as_plain (Err error) = Err (of_plain error)

abbrev pub as_member : {A : Type 0} → Result A MemberFault → Result A LoadFault
as_member (Ok value) = Ok value
as_member (Err error) = Err (of_member error)

-- a step that loads more answers with what was loaded then
abbrev pub answer : Result (Unit {0}) LoadFault → Progress → Result Progress LoadFault
answer (Ok done) now = Ok now
answer (Err error) now = Err error

-- an answer that isn't a fault: the value, or the refusal
abbrev pub IsGiven : {A : Type 0} → Result A LoadFault → Result A Diag → Type 0
IsGiven (Ok value) given = given ≡ Ok value
IsGiven (Err (fault.Diag diag)) given = given ≡ Err diag
IsGiven (Err fault.Folder) given = Unit {0}
IsGiven (Err fault.Tool) given = Unit {0}
IsGiven (Err fault.NoMemory) given = Unit {0}

-- .. and what holds then
abbrev pub OnGiven : {A : Type 0} → Result A LoadFault → Type 0 → Type 0
OnGiven (Ok value) so = so
OnGiven (Err (fault.Diag diag)) so = so
OnGiven (Err fault.Folder) so = Unit {0}
OnGiven (Err fault.Tool) so = Unit {0}
OnGiven (Err fault.NoMemory) so = Unit {0}

-- what holds after a fault
abbrev pub OnFault : {A : Type 0} → Result A LoadFault → Type 0 → Type 0
OnFault (Ok value) so = Unit {0}
OnFault (Err (fault.Diag diag)) so = Unit {0}
OnFault (Err fault.Folder) so = so
OnFault (Err fault.Tool) so = so
OnFault (Err fault.NoMemory) so = so
