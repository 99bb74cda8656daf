-- The laws of the formats.
use Rattle.std.specs.Prelude.{ℕ, ◌≡◌, ◌<◌, ◌^◌, List, [], ◌++◌, length}
use Rattle.cm_bytes.specs.Fields.{IsReadAgain, ReadsSpelled}
use Rattle.bin_formats.specs.declared.bin.Bin.{Bin}
use Rattle.bin_formats.specs.declared.bin.ToolRecord.{ToolRecord}
use Rattle.bin_formats.specs.Format.{binfile, interface_file, record_file, IsBin, IsRecord}
use Rattle.bin_formats.specs.Reading.{bin_at, interface_at, record_at}

-- what is spelled is read again, whatever follows it
pub record SpelledIsRead : Type 0 where
  pub bins : (bin : Bin) → IsBin bin → IsReadAgain binfile bin_at bin
  pub interfaces : (text : List ℕ) → length text < 2 ^ 32 → IsReadAgain interface_file interface_at text
  pub records : (run : ToolRecord) → IsRecord run → IsReadAgain record_file record_at run

-- what is read from bytes is spelled so, and has a spelling
pub record ReadIsSpelled : Type 0 where
  pub bins : ReadsSpelled binfile bin_at IsBin
  pub interfaces : ReadsSpelled interface_file interface_at (λ text. length text < 2 ^ 32)
  pub records : ReadsSpelled record_file record_at IsRecord

-- no proper front of a binfile, an interface file or a tool's record is one, and no two values are spelled alike
pub record NoFrontIsWhole : Type 0 where
  pub bins : (a b : Bin) (more : List ℕ) → IsBin a → IsBin b → binfile a ++ more ≡ binfile b → (a ≡ b) × (more ≡ [])
  pub interfaces : (a b more : List ℕ) → length a < 2 ^ 32 → length b < 2 ^ 32
      → interface_file a ++ more ≡ interface_file b → (a ≡ b) × (more ≡ [])
  pub records : (a b : ToolRecord) (more : List ℕ) → IsRecord a → IsRecord b
      → record_file a ++ more ≡ record_file b → (a ≡ b) × (more ≡ [])
