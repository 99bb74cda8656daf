-- What stands whole in a store: the interface under a hash, and the binfile of a unit; and a store in which one is put.
use Rattle.std.specs.Prelude.{ℕ, ◌≡◌, ◌⊎◌, ◌&&◌, if◌then◌else◌, List, length, drop, Option, None, Some, is_some, nat_eq, nat_le}
use Rattle.std.specs.Cmp.Lexicographic.{pointwise}
use Rattle.std.specs.FinMap.{get, insert}
use Rattle.cm_base.specs.Files.{Files, Told}
use Rattle.cm_base.specs.Keeping.{Touches}
use Rattle.cm_base.specs.declared.record.Pid.{Pid}
use Rattle.cm_bytes.specs.Hashes.{hash_of}
use Rattle.bin_formats.specs.declared.bin.Bin.{Bin}
use Rattle.bin_formats.specs.Fitting.{bin_in}
use Rattle.bin_formats.specs.Format.{IsBin, binfile, interface_file}
use Rattle.bin_store.specs.Paths.{bin_path, interface_path}

-- the interface of which some bytes are the file, where they are so, are at most 1,048,584, and it has this hash
unfoldable pub interface_in : Pid → List ℕ → Option (List ℕ)
interface_in hash bytes =
    if nat_le (length bytes) 1048584 && (pointwise nat_eq bytes (interface_file (drop 8 bytes))
    && pointwise nat_eq (hash_of (drop 8 bytes)).bytes hash.bytes)
    then Some (drop 8 bytes) else None

-- .. where there is a file
abbrev pub interface_found : Pid → Option (List ℕ) → Option (List ℕ)
interface_found hash None = None
interface_found hash (Some bytes) = interface_in hash bytes

-- the interface that stands whole under a hash
unfoldable pub stored_interface : Files → Pid → Option (List ℕ)
stored_interface files hash = interface_found hash (get files (interface_path hash))

-- a binfile, where it is of this unit: another unit's bytes may stand in its place
abbrev pub if_unit : List ℕ → Option Bin → Option Bin
if_unit unit None = None
if_unit unit (Some bin) = if pointwise nat_eq bin.unit unit then Some bin else None

-- the binfile of a unit that some bytes are, at most 16,777,216 of them
abbrev pub bin_of_bytes : List ℕ → List ℕ → Option Bin
bin_of_bytes unit bytes = if nat_le (length bytes) 16777216 then if_unit unit (bin_in bytes) else None

-- .. where there is a file
abbrev pub bin_found : List ℕ → Option (List ℕ) → Option Bin
bin_found unit None = None
bin_found unit (Some bytes) = bin_of_bytes unit bytes

-- the binfile that stands whole at a unit's place
unfoldable pub stored_bin : Files → List ℕ → Option Bin
stored_bin files unit = bin_found unit (get files (bin_path unit))

-- a store after an interface is put: it is written only where none stands whole
unfoldable pub with_interface : Files → List ℕ → Files
with_interface files text =
    if is_some (stored_interface files (hash_of text)) then files
    else insert files (interface_path (hash_of text)) (interface_file text)

-- what a put of an interface leaves, whatever it answers: everything as it was, or, where none stood whole under
-- its hash, at its path the old bytes, nothing, or a front of its file
pub record PutsInterface (old new : Option Files) (text : List ℕ) : Type 0 where
  pub leaves : (new ≡ old)
      ⊎ (Told old (λ files. stored_interface files (hash_of text) ≡ None)
      × Touches old new (interface_path (hash_of text)) (interface_file text))

-- what a put of a binfile leaves, whatever it answers: everything as it was, or at its path the old bytes, nothing,
-- or a front of the binfile
pub record PutsBin (old new : Option Files) (bin : Bin) : Type 0 where
  pub leaves : (new ≡ old) ⊎ (IsBin bin × Touches old new (bin_path bin.unit) (binfile bin))
