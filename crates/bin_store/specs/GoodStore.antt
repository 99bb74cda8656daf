-- A good store: whatever whole file stands in it is what a build with this compiler left there.
use Rattle.std.specs.Prelude.{ℕ, ◌≡◌, List, Option, Some, Ok, map, length, ◌≤◌, All, Contains}
use Rattle.std.specs.FinMap.{get}
use Rattle.cm_base.specs.Definitions.{Definitions}
use Rattle.cm_base.specs.Files.{Files}
use Rattle.cm_base.specs.Derived.{derived_text}
use Rattle.cm_base.specs.declared.record.Skeleton.{Skeleton}
use Rattle.cm_base.specs.declared.record.CompileInput.{CompileInput}
use Rattle.cm_base.specs.declared.record.Compiled.{Compiled}
use Rattle.cm_base.specs.declared.record.Given.{Given}
use Rattle.cm_bytes.specs.Hashes.{hash_of}
use Rattle.bin_formats.specs.declared.bin.Bin.{Bin}
use Rattle.bin_formats.specs.declared.bin.ToolRecord.{ToolRecord}
use Rattle.bin_formats.specs.Format.{interface_file}
use Rattle.bin_store.specs.Paths.{interface_path}
use Rattle.bin_store.specs.Whole.{IsWholeBin, IsWholeInterface, IsWholeRecord}

-- the binfile of an input: with the skeleton and with what the compiler makes of it
abbrev pub bin_of : CompileInput → Skeleton → Compiled → Bin
bin_of input skeleton made = record {
  unit = input.unit;
  options = input.options;
  source = input.source;
  skeleton = skeleton;
  imports = map (λ given. given.import) input.imports;
  interface = hash_of made.interface;
  code = made.code;
}

-- a given interface is known, and has the hash that its import records
pub record IsKnown (texts : List (List ℕ)) (given : Given) : Type 0 where
  pub known : Contains texts given.interface
  pub hash : given.import.hash ≡ hash_of given.interface

-- a binfile is that of an input with known interfaces, and its own interface is known and stands whole in the store
pub record IsGoodBin (by : Definitions) (texts : List (List ℕ)) (files : Files) (bin : Bin) : Type 0 where
  pub input : CompileInput
  pub skeleton : Skeleton
  pub made : Compiled
  pub skeleton_is : by.skel input.unit input.source ≡ Ok skeleton
  pub made_is : by.compiled input ≡ Ok made
  pub bin_is : bin ≡ bin_of input skeleton made
  pub givens : All (IsKnown texts) input.imports
  pub known : Contains texts made.interface
  pub small : length made.interface ≤ 1048576
  pub stands : get files (interface_path bin.interface) ≡ Some (interface_file made.interface)

-- a store is good for a list of interfaces where each whole binfile is good, each whole interface file has one of
-- them, and each whole tool record has the text that its rule derives
pub record IsGoodStore (by : Definitions) (texts : List (List ℕ)) (files : Files) : Type 0 where
  pub bins : (path bytes : List ℕ) (bin : Bin) → get files path ≡ Some bytes → IsWholeBin path bytes bin
      → IsGoodBin by texts files bin
  pub interfaces : (path bytes interface : List ℕ) → get files path ≡ Some bytes
      → IsWholeInterface path bytes interface → Contains texts interface
  pub records : (path bytes : List ℕ) (run : ToolRecord) → get files path ≡ Some bytes → IsWholeRecord path bytes run
      → run.output ≡ derived_text run.rule run.unit run.input

-- a folder tells its files, and they are a good store
pub record StoreIsGood (by : Definitions) (texts : List (List ℕ)) (holds : Option Files) : Type 0 where
  pub files : Files
  pub told : holds ≡ Some files
  pub good : IsGoodStore by texts files
