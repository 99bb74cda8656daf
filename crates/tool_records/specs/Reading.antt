-- The record of a tool's run that some bytes are.
use Rattle.std.specs.Prelude.{ℕ, ◌≡◌, ◌&&◌, Bool, nat_eq, List, length, Option, Some, None, if◌then◌else◌}
use Rattle.std.specs.Cmp.Lexicographic.{pointwise}
use Rattle.bin_formats.specs.declared.bin.ToolRecord.{ToolRecord}
use Rattle.bin_formats.specs.Fitting.{is_u32}
use Rattle.bin_formats.specs.Format.{record_file, IsRecord}
use Rattle.bin_formats.specs.Reading.{record_at, all_of}

-- the record that some bytes are; none exactly where they are no record
abbrev pub ReadsRecord : Option ToolRecord → List ℕ → Type 0
ReadsRecord (Some run) bytes = IsRecord run × (bytes ≡ record_file run)
ReadsRecord None bytes = (run : ToolRecord) → IsRecord run → bytes ≡ record_file run → ⊥

-- whether a record has a spelling
unfoldable pub fits_record : ToolRecord → Bool
fits_record run =
    is_u32 (length run.unit) && (is_u32 (length run.class) && (is_u32 (length run.rule)
    && (is_u32 (length run.input) && is_u32 (length run.output))))

-- a record, where these bytes are its spelling
abbrev pub if_spelled : List ℕ → Option ToolRecord → Option ToolRecord
if_spelled bytes None = None
if_spelled bytes (Some run) =
    if fits_record run && pointwise nat_eq bytes (record_file run) then Some run else None

-- the record that these bytes are, as a value that computes
unfoldable pub record_in : List ℕ → Option ToolRecord
record_in bytes = if_spelled bytes (all_of (record_at bytes))
