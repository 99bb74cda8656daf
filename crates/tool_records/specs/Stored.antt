-- The record that stands whole in a store for a unit, and a store in which one is put.
use Rattle.std.specs.Prelude.{ℕ, ◌≡◌, ◌⊎◌, if◌then◌else◌, List, length, Option, None, Some, nat_eq, nat_le}
use Rattle.std.specs.Cmp.Lexicographic.{pointwise}
use Rattle.std.specs.FinMap.{get, insert}
use Rattle.cm_base.specs.Derived.{derived_text}
use Rattle.cm_base.specs.Files.{Files}
use Rattle.cm_base.specs.Keeping.{Touches}
use Rattle.bin_formats.specs.declared.bin.ToolRecord.{ToolRecord}
use Rattle.bin_formats.specs.Format.{record_file}
use Rattle.bin_store.specs.Paths.{tool_path}
use Rattle.tool_records.specs.Reading.{record_in}

-- a record, where it is of this unit: another unit's bytes may stand in its place
abbrev pub if_unit : List ℕ → Option ToolRecord → Option ToolRecord
if_unit unit None = None
if_unit unit (Some run) = if pointwise nat_eq run.unit unit then Some run else None

-- the record of a unit that some bytes are, at most 16,777,216 of them
abbrev pub record_of_bytes : List ℕ → List ℕ → Option ToolRecord
record_of_bytes unit bytes = if nat_le (length bytes) 16777216 then if_unit unit (record_in bytes) else None

-- .. where there is a file
abbrev pub record_found : List ℕ → Option (List ℕ) → Option ToolRecord
record_found unit None = None
record_found unit (Some bytes) = record_of_bytes unit bytes

-- the record that stands whole at a unit's place
unfoldable pub stored_record : Files → List ℕ → Option ToolRecord
stored_record files unit = record_found unit (get files (tool_path unit))

-- a store after a record is put
abbrev pub with_record : Files → ToolRecord → Files
with_record files run = insert files (tool_path run.unit) (record_file run)

-- what a put of a record leaves, whatever it answers: everything as it was, or at its path the old bytes, nothing, or a
-- front of the record
pub record PutsRecord (old new : Option Files) (run : ToolRecord) : Type 0 where
  pub leaves : (new ≡ old) ⊎ Touches old new (tool_path run.unit) (record_file run)

-- what stands for a unit, if a record does, has the text that its rule derives
pub record HasTrueRecord (files : Files) (unit : List ℕ) : Type 0 where
  pub derived : (run : ToolRecord) → stored_record files unit ≡ Some run
      → run.output ≡ derived_text run.rule run.unit run.input
