-- The formats of the store's files: each file as the spelling of a value. Its fields are big-endian numbers of
-- four bytes, texts after their lengths, and lists after their counts.
use Rattle.std.specs.Prelude.{ℕ, ◌+◌, ◌<◌, ◌≡◌, ◌^◌, Bool, true, false, List, [], ◌∷◌, ◌++◌, length, All}
use Rattle.sha2.specs.Sha256.{sha256}
use Rattle.cm_base.specs.declared.record.ModName.{ModName}
use Rattle.cm_base.specs.declared.record.Options.{Options}
use Rattle.cm_base.specs.declared.record.Spot.{Spot}
use Rattle.cm_base.specs.declared.record.Need.{Need}
use Rattle.cm_base.specs.declared.record.Import.{Import}
use Rattle.cm_bytes.specs.Fields.{space_byte, u32_of, text_of, list_of}
use Rattle.bin_formats.specs.declared.bin.Bin.{Bin}
use Rattle.bin_formats.specs.declared.bin.ToolRecord.{ToolRecord}

-- the byte of a flag
abbrev pub flag_byte : Bool → ℕ
flag_byte true = 1
flag_byte false = 0

-- the byte of the options: 1 for `nobasis` and 2 for `opaque`
abbrev pub options_byte : Options → ℕ
options_byte options = flag_byte options.nobasis + (flag_byte options.opaque + flag_byte options.opaque)

-- a module name: the byte of its space, and its text
abbrev pub name_of : ModName → List ℕ
name_of name = space_byte name.space ∷ text_of name.name

-- a module name with its line and column
abbrev pub spot_of : Spot → List ℕ
spot_of spot = name_of spot.name ++ (u32_of spot.line ++ u32_of spot.col)

-- .. and whether it is sure
abbrev pub need_of : Need → List ℕ
need_of need = spot_of need.spot ++ (flag_byte need.sure ∷ [])

-- an import: its name, its provider, and the 32 bytes of its hash
abbrev pub import_of : Import → List ℕ
import_of import = name_of import.name ++ (text_of import.provider ++ import.hash.bytes)

-- a binfile up to the digest that ends it
unfoldable pub bin_body : Bin → List ℕ
bin_body bin =
    67 ∷ 77 ∷ 66 ∷ 49 ∷ (text_of bin.unit ++ (options_byte bin.options ∷ (text_of bin.source
    ++ (list_of spot_of bin.skeleton.defined ++ (list_of need_of bin.skeleton.free
    ++ (list_of import_of bin.imports ++ (bin.interface.bytes ++ text_of bin.code)))))))

-- .. its parts before its lists
unfoldable pub bin_head : Bin → List ℕ
bin_head bin = 67 ∷ 77 ∷ 66 ∷ 49 ∷ (text_of bin.unit ++ (options_byte bin.options ∷ text_of bin.source))

-- .. its lists, the hash of its interface and its code
unfoldable pub bin_rest : Bin → List ℕ
bin_rest bin =
    list_of spot_of bin.skeleton.defined ++ (list_of need_of bin.skeleton.free
    ++ (list_of import_of bin.imports ++ (bin.interface.bytes ++ text_of bin.code)))

-- a binfile: `CMB1`, the unit, its options and source, its skeleton, its imports, the hash of its interface,
-- its code, and the SHA-256 of all before
unfoldable pub binfile : Bin → List ℕ
binfile bin = bin_body bin ++ sha256 (bin_body bin)

-- an interface file: `CME1` and the interface
unfoldable pub interface_file : List ℕ → List ℕ
interface_file interface = 67 ∷ 77 ∷ 69 ∷ 49 ∷ text_of interface

-- a tool's record up to the digest that ends it
unfoldable pub record_body : ToolRecord → List ℕ
record_body run =
    67 ∷ 77 ∷ 84 ∷ 49 ∷ (text_of run.unit ++ (text_of run.class ++ (text_of run.rule ++ (text_of run.input
    ++ text_of run.output))))

-- a tool's record: `CMT1`, the unit, the class, the rule, the input and the output, and the SHA-256 of all before
unfoldable pub record_file : ToolRecord → List ℕ
record_file run = record_body run ++ sha256 (record_body run)

-- what has a spelling: texts and lists of fewer than 2^32 bytes and items, numbers of four bytes, hashes of 32
pub record IsSpot (spot : Spot) : Type 0 where
  pub name : length spot.name.name < 2 ^ 32
  pub line : spot.line < 2 ^ 32
  pub col : spot.col < 2 ^ 32

-- .. of an import
pub record IsImport (import : Import) : Type 0 where
  pub name : length import.name.name < 2 ^ 32
  pub provider : length import.provider < 2 ^ 32
  pub hash : length import.hash.bytes ≡ 32

-- .. of a binfile
pub record IsBin (bin : Bin) : Type 0 where
  pub unit : length bin.unit < 2 ^ 32
  pub source : length bin.source < 2 ^ 32
  pub defined : length bin.skeleton.defined < 2 ^ 32
  pub defined_spots : All IsSpot bin.skeleton.defined
  pub free : length bin.skeleton.free < 2 ^ 32
  pub free_spots : All (λ need. IsSpot need.spot) bin.skeleton.free
  pub imports : length bin.imports < 2 ^ 32
  pub each_import : All IsImport bin.imports
  pub interface : length bin.interface.bytes ≡ 32
  pub code : length bin.code < 2 ^ 32

-- .. of a tool's record
pub record IsRecord (run : ToolRecord) : Type 0 where
  pub unit : length run.unit < 2 ^ 32
  pub class : length run.class < 2 ^ 32
  pub rule : length run.rule < 2 ^ 32
  pub input : length run.input < 2 ^ 32
  pub output : length run.output < 2 ^ 32

-- .. and what of that a program has to see to: the sizes of texts and lists
pub record IsShortImport (import : Import) : Type 0 where
  pub name : length import.name.name < 2 ^ 32
  pub provider : length import.provider < 2 ^ 32

-- .. of a binfile
pub record IsShortBin (bin : Bin) : Type 0 where
  pub unit : length bin.unit < 2 ^ 32
  pub source : length bin.source < 2 ^ 32
  pub defined : length bin.skeleton.defined < 2 ^ 32
  pub each_defined : All (λ spot. length spot.name.name < 2 ^ 32) bin.skeleton.defined
  pub free : length bin.skeleton.free < 2 ^ 32
  pub each_free : All (λ need. length need.spot.name.name < 2 ^ 32) bin.skeleton.free
  pub imports : length bin.imports < 2 ^ 32
  pub each_import : All IsShortImport bin.imports
  pub code : length bin.code < 2 ^ 32
