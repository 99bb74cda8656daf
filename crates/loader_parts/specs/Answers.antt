-- What the loader's calls answer, by cases on their results.
use Rattle.std.specs.Prelude.{◌≡◌, Result, Ok, Err}
use Rattle.cm_base.specs.declared.diag.Diag.{Diag}
use Rattle.cm_base.specs.declared.fault.Fault.{Fault}
use Rattle.cm_base.specs.declared.fault.Fault.TheVariants as refusal
use Rattle.cm_base.specs.declared.fault.FolderFault.{FolderFault}
use Rattle.cm_base.specs.declared.fault.FolderFault.TheVariants as folder
use Rattle.loader_parts.specs.declared.fault.ReadFault.{ReadFault}
use Rattle.loader_parts.specs.declared.fault.ReadFault.TheVariants as fault
use Rattle.project_checks.specs.declared.progress.Progress.{Progress}

-- a folder's fault as the loader's
abbrev pub of_folder : FolderFault → ReadFault
of_folder folder.Failed = fault.Folder
of_folder folder.NoMemory = fault.NoMemory

-- a refusal as the loader's fault
abbrev pub of_refusal : Fault → ReadFault
of_refusal (refusal.Diag diag) = fault.Diag diag
of_refusal refusal.NoMemory = fault.NoMemory

-- a call gives what its definition gives, or its folder failed, or it wants memory
abbrev pub Loads : {A : Type 0} → Result A ReadFault → Result A Diag → Type 0
Loads (Ok value) defined = defined ≡ Ok value
Loads (Err (fault.Diag diag)) defined = defined ≡ Err diag
Loads (Err fault.Folder) defined = Unit {0}
Loads (Err fault.NoMemory) defined = Unit {0}

-- a call that loads more leaves what its definition gives, or the same as above
abbrev pub Leaves : Result (Unit {0}) ReadFault → Result Progress Diag → Progress → Type 0
Leaves (Ok done) defined now = defined ≡ Ok now
Leaves (Err (fault.Diag diag)) defined now = defined ≡ Err diag
Leaves (Err fault.Folder) defined now = Unit {0}
Leaves (Err fault.NoMemory) defined now = Unit {0}

-- .. without a folder
abbrev pub LeavesBy : Result (Unit {0}) Fault → Result Progress Diag → Progress → Type 0
LeavesBy (Ok done) defined now = defined ≡ Ok now
LeavesBy (Err (refusal.Diag diag)) defined now = defined ≡ Err diag
LeavesBy (Err refusal.NoMemory) defined now = Unit {0}
