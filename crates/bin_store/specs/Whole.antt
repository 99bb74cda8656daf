-- Whole files of the store. A file that isn't whole counts as absent.
use Rattle.std.specs.Prelude.{ℕ, ◌≤◌, ◌≡◌, List, length}
use Rattle.cm_bytes.specs.Hashes.{hash_of}
use Rattle.bin_formats.specs.declared.bin.Bin.{Bin}
use Rattle.bin_formats.specs.declared.bin.ToolRecord.{ToolRecord}
use Rattle.bin_formats.specs.Format.{binfile, interface_file, record_file, IsBin, IsRecord}
use Rattle.bin_store.specs.Paths.{bin_path, tool_path, interface_path}

-- the bytes at a path are the binfile of a unit with that path, of at most 16,777,216 bytes
pub record IsWholeBin (path bytes : List ℕ) (bin : Bin) : Type 0 where
  pub fits : IsBin bin
  pub spelled : bytes ≡ binfile bin
  pub small : length bytes ≤ 16777216
  pub place : path ≡ bin_path bin.unit

-- the bytes at a path are an interface file whose interface has the hash in the path, of at most 1,048,584 bytes
pub record IsWholeInterface (path bytes interface : List ℕ) : Type 0 where
  pub spelled : bytes ≡ interface_file interface
  pub small : length bytes ≤ 1048584
  pub place : path ≡ interface_path (hash_of interface)

-- the bytes at a path are a tool's record of a unit with that path, of at most 16,777,216 bytes
pub record IsWholeRecord (path bytes : List ℕ) (run : ToolRecord) : Type 0 where
  pub fits : IsRecord run
  pub spelled : bytes ≡ record_file run
  pub small : length bytes ≤ 16777216
  pub place : path ≡ tool_path run.unit
