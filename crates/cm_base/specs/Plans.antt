-- Which calls of an object in memory fail: those that its plan names, by kind and number, counted from 1.
use Rattle.std.specs.Prelude.{◌≡◌, ◌/◌, ◌==◌, ◌&&◌, ℕ, Bool, true, false, Option, None, Some, Result, Ok, Err, List, [], ◌∷◌, ◌++◌, take, length, IsSome, IfSome, if◌then◌else◌}
use Rattle.std.specs.List.{list_any}
use Rattle.std.specs.FinMap.{insert, remove}
use Rattle.cm_base.specs.Files.{Files}
use Rattle.cm_base.specs.Causes.{one_more}
use Rattle.cm_base.specs.declared.fault.FolderFault.{FolderFault}
use Rattle.cm_base.specs.declared.fault.FolderFault.TheVariants as folder
use Rattle.cm_base.specs.declared.fault.SinkFault.{SinkFault}
use Rattle.cm_base.specs.declared.fault.SinkFault.TheVariants as sink
use Rattle.cm_base.specs.declared.plan.CallKind.{CallKind}
use Rattle.cm_base.specs.declared.plan.CallKind.TheVariants as call
use Rattle.cm_base.specs.declared.plan.Left.{Left}
use Rattle.cm_base.specs.declared.plan.Left.TheVariants as left
use Rattle.cm_base.specs.declared.plan.FailAt.{FailAt}
use Rattle.cm_base.specs.declared.plan.CallCounts.{CallCounts}

abbrev pub same_kind : CallKind → CallKind → Bool
same_kind call.Read call.Read = true
same_kind call.Write call.Write = true
same_kind call.Remove call.Remove = true
same_kind call.List call.List = true
same_kind _ _ = false

-- whether an entry of a plan names the call of this kind and number
unfoldable pub names : FailAt → CallKind → ℕ → Bool
names entry kind nth = same_kind entry.kind kind && (entry.nth == nth)

-- what the plan has the call of this kind and number leave, if it names it: the first entry that does
abbrev pub planned : List FailAt → CallKind → ℕ → Option Left
planned [] kind nth = None
planned (entry ∷ plan) kind nth = if names entry kind nth then Some entry.left else planned plan kind nth

-- no call yet
abbrev pub no_calls : CallCounts
no_calls = record { reads = 0; writes = 0; removes = 0; lists = 0 }

-- how often a call of this kind was made
abbrev pub calls_of : CallCounts → CallKind → ℕ
calls_of calls call.Read = calls.reads
calls_of calls call.Write = calls.writes
calls_of calls call.Remove = calls.removes
calls_of calls call.List = calls.lists

-- .. and the counts after one more
abbrev pub with_call : CallCounts → CallKind → CallCounts
with_call calls call.Read = record calls { reads = one_more calls.reads }
with_call calls call.Write = record calls { writes = one_more calls.writes }
with_call calls call.Remove = record calls { removes = one_more calls.removes }
with_call calls call.List = record calls { lists = one_more calls.lists }

-- what the plan has the next call of this kind leave, if it names it
abbrev pub next_planned : List FailAt → CallCounts → CallKind → Option Left
next_planned plan calls kind = planned plan kind (one_more (calls_of calls kind))

-- a call fails exactly where the plan names it
abbrev pub FailsAsPlanned : {A : Type 0} → Option Left → Result A FolderFault → Type 0
FailsAsPlanned named (Ok done) = named ≡ None
FailsAsPlanned named (Err folder.Failed) = IsSome named
FailsAsPlanned named (Err folder.NoMemory) = Unit {0}

-- what a failed write leaves of a folder
abbrev pub left_by_write : Left → Files → List ℕ → List ℕ → Files
left_by_write left.Old files path bytes = files
left_by_write left.Nothing files path bytes = remove files path
left_by_write (left.Prefix n) files path bytes = insert files path (take n bytes)

-- what a failed removal leaves of a folder
abbrev pub left_by_remove : Left → Files → List ℕ → Files
left_by_remove left.Old files path = files
left_by_remove left.Nothing files path = remove files path
left_by_remove (left.Prefix n) files path = files

-- a write fails exactly where the plan names it, and then leaves what the plan says
abbrev pub WritesAsPlanned : Option Left → Result (Unit {0}) FolderFault → Files → Files → List ℕ → List ℕ → Type 0
WritesAsPlanned named (Ok done) old new path bytes = (named ≡ None) × (new ≡ insert old path bytes)
WritesAsPlanned named (Err folder.Failed) old new path bytes = IfSome named (λ left. new ≡ left_by_write left old path bytes) × IsSome named
WritesAsPlanned named (Err folder.NoMemory) old new path bytes = new ≡ old

-- a removal fails exactly where the plan names it, and then leaves what the plan says
abbrev pub RemovesAsPlanned : Option Left → Result (Unit {0}) FolderFault → Files → Files → List ℕ → Type 0
RemovesAsPlanned named (Ok done) old new path = (named ≡ None) × (new ≡ remove old path)
RemovesAsPlanned named (Err folder.Failed) old new path = IfSome named (λ left. new ≡ left_by_remove left old path) × IsSome named
RemovesAsPlanned named (Err folder.NoMemory) old new path = new ≡ old

-- what a put of a sink in memory appends where its plan has it fail: half of the bytes, and never more
abbrev pub first_half : List ℕ → List ℕ
first_half bytes = take (length bytes / 2) bytes

-- a sink's plan lists the numbers of the puts that fail
abbrev pub PutAsPlanned : List ℕ → ℕ → Result (Unit {0}) SinkFault → List ℕ → List ℕ → List ℕ → Type 0
PutAsPlanned plan nth (Ok done) old new bytes = (list_any (λ n. n == nth) plan ≡ false) × (new ≡ old ++ bytes)
PutAsPlanned plan nth (Err sink.Failed) old new bytes = (list_any (λ n. n == nth) plan ≡ true) × (new ≡ old ++ first_half bytes)
PutAsPlanned plan nth (Err sink.NoMemory) old new bytes = new ≡ old
