-- How a command ends, what it leaves and what was asked, in every case. The promise of a command is made of these.
use Rattle.std.specs.Prelude.{ℕ, ◌≡◌, ◌≢◌, ◌⊎◌, false, Contains, List, ◌++◌, Option, Some, None, take}
use Rattle.std.specs.FinMap.{get}
use Rattle.cm_base.specs.Definitions.{Definitions}
use Rattle.cm_base.specs.Files.{Files, is_stored}
use Rattle.cm_base.specs.Fronts.{GrowsUpTo}
use Rattle.cm_base.specs.Keeping.{Keeps}
use Rattle.cm_bytes.specs.Hashes.{HashesApart}
use Rattle.bin_store.specs.GoodStore.{IsGoodStore, StoreIsGood}
use Rattle.bin_store.specs.Paths.{linked_path}
use Rattle.command_parts.specs.Meaning.{Meaning}
use Rattle.command_parts.specs.declared.status.Status.{Status}
use Rattle.command_parts.specs.declared.status.Status.TheVariants as status

-- the statuses of a command that met no fault
abbrev pub IsPlain : Status → Type 0
IsPlain status.Ok = Unit {0}
IsPlain status.Diagnostic = Unit {0}
IsPlain status.Usage = Unit {0}
IsPlain status.FolderFault = ⊥
IsPlain status.SinkFault = ⊥
IsPlain status.NoMemory = ⊥
IsPlain status.ToolFault = ⊥

-- the statuses of a command whose words mean nothing
abbrev pub IsUsageEnd : Status → Type 0
IsUsageEnd status.Ok = ⊥
IsUsageEnd status.Diagnostic = ⊥
IsUsageEnd status.Usage = Unit {0}
IsUsageEnd status.FolderFault = ⊥
IsUsageEnd status.SinkFault = Unit {0}
IsUsageEnd status.NoMemory = Unit {0}
IsUsageEnd status.ToolFault = ⊥

-- what a command finds and leaves: what the output had, and has then; what the folder holds then; and both lists of
-- what the compiler was asked, before and after
pub record Run : Type 0 where
  pub text : List ℕ
  pub written : Option (List ℕ)
  pub holds : Option Files
  pub asked : List (List ℕ)
  pub asked_then : List (List ℕ)
  pub skeletons : List (List ℕ)
  pub skeletons_then : List (List ℕ)

abbrev pub run_of : List ℕ → Option (List ℕ) → Option Files → List (List ℕ) → List (List ℕ) → List (List ℕ)
    → List (List ℕ) → Run
run_of text written holds asked asked_then skeletons skeletons_then = record {
  text = text;
  written = written;
  holds = holds;
  asked = asked;
  asked_then = asked_then;
  skeletons = skeletons;
  skeletons_then = skeletons_then;
}

-- how a command that met no fault ends: as it means
pub record IsMeaning (m : Meaning) (end : Status) (run : Run) : Type 0 where
  pub status : end ≡ m.status
  pub output : run.written ≡ Some (run.text ++ m.output)
  pub files : run.holds ≡ Some m.files
  pub asks : run.asked_then ≡ run.asked ++ m.asked
  pub asks_skeletons : run.skeletons_then ≡ run.skeletons ++ m.asked_skeletons

-- how one ends that a fault or want of memory cut off: so much is printed, and a front of what it asks for was asked
pub record IsCutOff (m : Meaning) (printed : List ℕ) (run : Run) : Type 0 where
  pub output : run.written ≡ Some (run.text ++ printed)
  pub asks : GrowsUpTo run.asked run.asked_then m.asked
  pub asks_skeletons : GrowsUpTo run.skeletons run.skeletons_then m.asked_skeletons

-- .. by a fault of the folder or for want of memory: before it prints, or between the steps of a session
pub record IsCutShort (m : Meaning) (run : Run) : Type 0 where
  pub printed : List ℕ
  pub one : Contains m.cuts printed
  pub cut : IsCutOff m printed run

-- a command ends as it means, or it is cut off: so, or where the output fails, after a front of its output
abbrev pub Ends : Status → Meaning → Run → Type 0
Ends status.Ok m run = IsMeaning m status.Ok run
Ends status.Diagnostic m run = IsMeaning m status.Diagnostic run
Ends status.Usage m run = IsMeaning m status.Usage run
Ends status.FolderFault m run = IsCutShort m run
Ends status.SinkFault m run = (n : ℕ) × IsCutOff m (take n m.output) run
Ends status.NoMemory m run = IsCutShort m run
Ends status.ToolFault m run = IsCutShort m run

-- ---- from a good store

-- for every list of known interfaces for which the store at entry is good, where no two differing texts of these and of
-- the command's own share a hash
abbrev pub FromGood : Definitions → Files → Meaning → (List (List ℕ) → Type 0) → Type 0
FromGood by files m P = (known : List (List ℕ)) → HashesApart (known ++ m.interfaces) → IsGoodStore by known files → P known

-- what is promised of a command's end
pub record IsAsPromised (by : Definitions) (files : Files) (m : Meaning) (end : Status) (run : Run) : Type 0 where
  -- It ends as it means; after a fault a front of that is printed and asked for.
  pub ends : FromGood by files m (λ known. Ends end m run)

-- what is promised of the folder, whatever the answer, and whatever the output tells
pub record Stays (by : Definitions) (files : Files) (m : Meaning) (holds : Option Files) : Type 0 where
  -- Each path that the command doesn't write is as it was.
  pub frame : FromGood by files m (λ known. Keeps (Some files) holds m.paths)
  -- The store is good for what was known and for the command's own interfaces, so the next command starts well.
  pub good : FromGood by files m (λ known. StoreIsGood by (known ++ m.interfaces) holds)

-- the linked program of a command that means to end so and to leave these files
abbrev pub MeansLinked : Status → Files → List ℕ → Type 0
MeansLinked end done bytes = (end ≡ status.Ok) × (get done linked_path ≡ Some bytes)

-- a path at which the linked program is written once it stands in the store: nothing stands there, or a front of it
pub record FollowsLinked (IsLinked : List ℕ → Type 0) (path : List ℕ) (after : Files) : Type 0 where
  pub bytes : List ℕ
  pub is : IsLinked bytes
  pub linked : get after linked_path ≡ Some bytes
  pub front : (get after path ≡ None) ⊎ ((n : ℕ) × (get after path ≡ Some (take n bytes)))

-- Each path outside the store is as it was, but for the target of the command. That is as it was too, unless the linked
-- program of the command stands in the store.
pub record KeepsOthers (IsLinked : List ℕ → Type 0) (target : Option (List ℕ)) (files : Files) (new : Option Files) :
    Type 0 where
  pub after : Files
  pub tells : new ≡ Some after
  pub kept : (path : List ℕ) → is_stored path ≡ false → target ≢ Some path → get after path ≡ get files path
  pub last : (path : List ℕ) → target ≡ Some path
      → (get after path ≡ get files path) ⊎ FollowsLinked IsLinked path after

-- .. of a command that means this
abbrev pub KeepsOthersOf : Meaning → Option (List ℕ) → Files → Option Files → Type 0
KeepsOthersOf m target files new = KeepsOthers (MeansLinked m.status m.files) target files new

-- each path outside the store is as it was, but for these
pub record KeepsOutside (paths : List (List ℕ)) (files : Files) (new : Option Files) : Type 0 where
  pub after : Files
  pub tells : new ≡ Some after
  pub kept : (path : List ℕ) → is_stored path ≡ false → (Contains paths path → ⊥) → get after path ≡ get files path
