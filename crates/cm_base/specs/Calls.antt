-- What each call of the four traits answers and leaves, by cases on its result.
use Rattle.std.specs.Prelude.{◌≡◌, ◌⊎◌, ◌≤◌, ◌<◌, ◌^◌, ◌+◌, ℕ, Bool, Option, Result, Ok, Err, List, [], ◌∷◌, ◌++◌, take, length, is_some, All}
use Rattle.std.specs.FinMap.{get, insert, remove}
use Rattle.cm_base.specs.Files.{Files, told, Told, read_bytes, paths_below}
use Rattle.cm_base.specs.Causes.{one_more}
use Rattle.cm_base.specs.declared.fault.FolderFault.{FolderFault}
use Rattle.cm_base.specs.declared.fault.FolderFault.TheVariants as folder
use Rattle.cm_base.specs.declared.fault.SinkFault.{SinkFault}
use Rattle.cm_base.specs.declared.fault.SinkFault.TheVariants as sink
use Rattle.cm_base.specs.declared.fault.ToolFault.{ToolFault}
use Rattle.cm_base.specs.declared.fault.ToolFault.TheVariants as tool
use Rattle.cm_base.specs.Fronts.{GrowsUpTo}
use Rattle.cm_base.specs.declared.fault.CompileFault.{CompileFault}
use Rattle.cm_base.specs.declared.fault.CompileFault.TheVariants as compile
use Rattle.cm_base.specs.declared.fault.Fault.{Fault}
use Rattle.cm_base.specs.declared.fault.Fault.TheVariants as fault
use Rattle.cm_base.specs.declared.diag.Diag.{Diag}
use Rattle.cm_base.specs.declared.record.Skeleton.{Skeleton}
use Rattle.cm_base.specs.declared.record.Spot.{Spot}

-- a read: whether the file is there, and its first bytes; a failed read may leave anything in the buffer,
-- and want of memory leaves it as it was
abbrev pub ReadGives : Result Bool FolderFault → Option Files → List ℕ → ℕ → List ℕ → List ℕ → Type 0
ReadGives (Ok there) holds path max before now =
    (length now ≤ max + 1) × Told holds (λ files. (there ≡ is_some (get files path)) × (now ≡ read_bytes max (get files path)))
ReadGives (Err folder.Failed) holds path max before now = Unit {0}
ReadGives (Err folder.NoMemory) holds path max before now = now ≡ before

-- a listing: the paths that begin so, in byte order
abbrev pub ListGives : Result (Unit {0}) FolderFault → Option Files → List ℕ → List (List ℕ) → List (List ℕ) → Type 0
ListGives (Ok done) holds prefix before now = Told holds (λ files. now ≡ paths_below files prefix)
ListGives (Err folder.Failed) holds prefix before now = Unit {0}
ListGives (Err folder.NoMemory) holds prefix before now = now ≡ before

-- a failed write leaves at its path the old bytes, nothing, or a front of the new bytes, and each other path as it was
abbrev pub LeftByWrite : Option Files → Option Files → List ℕ → List ℕ → Type 0
LeftByWrite old new path bytes =
    (new ≡ old) ⊎ ((new ≡ told (λ files. remove files path) old)
    ⊎ ((n : ℕ) × (new ≡ told (λ files. insert files path (take n bytes)) old)))

-- a write: the whole file is replaced, or what a failed write leaves; want of memory changes nothing
abbrev pub WriteLeaves : Result (Unit {0}) FolderFault → Option Files → Option Files → List ℕ → List ℕ → Type 0
WriteLeaves (Ok done) old new path bytes = new ≡ told (λ files. insert files path bytes) old
WriteLeaves (Err folder.Failed) old new path bytes = LeftByWrite old new path bytes
WriteLeaves (Err folder.NoMemory) old new path bytes = new ≡ old

-- a removal: the path is gone, also where it wasn't there; a failed one leaves the old bytes or nothing
abbrev pub RemoveLeaves : Result (Unit {0}) FolderFault → Option Files → Option Files → List ℕ → Type 0
RemoveLeaves (Ok done) old new path = new ≡ told (λ files. remove files path) old
RemoveLeaves (Err folder.Failed) old new path = (new ≡ old) ⊎ (new ≡ told (λ files. remove files path) old)
RemoveLeaves (Err folder.NoMemory) old new path = new ≡ old

-- a put: the bytes are appended; a failed one appends a front of them; want of memory appends nothing
abbrev pub PutLeaves : Result (Unit {0}) SinkFault → Option (List ℕ) → Option (List ℕ) → List ℕ → Type 0
PutLeaves (Ok done) old new bytes = new ≡ told (λ written. written ++ bytes) old
PutLeaves (Err sink.Failed) old new bytes = (n : ℕ) × (new ≡ told (λ written. written ++ take n bytes) old)
PutLeaves (Err sink.NoMemory) old new bytes = new ≡ old

-- a tool's run: its text, and how often it ran; a failed run counts too, one that wanted memory may count
abbrev pub Makes : Result (List ℕ) ToolFault → List ℕ → ℕ → ℕ → Type 0
Makes (Ok made) text before now = (made ≡ text) × (now ≡ one_more before)
Makes (Err tool.Failed) text before now = now ≡ one_more before
Makes (Err tool.NoMemory) text before now = (now ≡ before) ⊎ (now ≡ one_more before)

-- a compiler answers what its type defines, or that it wants memory
abbrev pub Answers : {A : Type 0} → Result A CompileFault → Result A Diag → Type 0
Answers (Ok value) defined = defined ≡ Ok value
Answers (Err (compile.Diag diag)) defined = defined ≡ Err diag
Answers (Err compile.NoMemory) defined = Unit {0}

-- a list of what was asked has the unit at its end; after want of memory it may have
abbrev pub Grows : {A : Type 0} → Result A CompileFault → List (List ℕ) → List (List ℕ) → List ℕ → Type 0
Grows (Ok value) old new unit = new ≡ old ++ unit ∷ []
Grows (Err (compile.Diag diag)) old new unit = new ≡ old ++ unit ∷ []
Grows (Err compile.NoMemory) old new unit = (new ≡ old) ⊎ (new ≡ old ++ unit ∷ [])

-- a step over a compiler gives what its definition gives, or wants memory
abbrev pub Gives : {A : Type 0} → Result A Fault → Result A Diag → Type 0
Gives (Ok value) defined = defined ≡ Ok value
Gives (Err (fault.Diag diag)) defined = defined ≡ Err diag
Gives (Err fault.NoMemory) defined = Unit {0}

-- a list of what was asked grew by these units, or by a front of them after want of memory
abbrev pub Asks : {A : Type 0} → Result A Fault → List (List ℕ) → List (List ℕ) → List (List ℕ) → Type 0
Asks (Ok value) old new asked = new ≡ old ++ asked
Asks (Err (fault.Diag diag)) old new asked = new ≡ old ++ asked
Asks (Err fault.NoMemory) old new asked = GrowsUpTo old new asked

-- a name and its place as they are in a source: at most 255 bytes, and numbers of four bytes
pub record IsSmallSpot (s : Spot) : Type 0 where
  pub name : length s.name.name ≤ 255
  pub line : s.line < 2 ^ 32
  pub col : s.col < 2 ^ 32

-- the sizes of a skeleton: at most 1,048,576 entries in each list, each of them small
pub record IsSmallSkeleton (s : Skeleton) : Type 0 where
  pub defined : length s.defined ≤ 1048576
  pub free : length s.free ≤ 1048576
  pub defined_spots : All IsSmallSpot s.defined
  pub free_spots : All (λ need. IsSmallSpot need.spot) s.free

-- a skeleton that a compiler gives is small
abbrev pub GivesSmall : Result Skeleton CompileFault → Type 0
GivesSmall (Ok s) = IsSmallSkeleton s
GivesSmall (Err fault) = Unit {0}
