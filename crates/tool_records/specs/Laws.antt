-- The laws of tools' records: what is stored is what stands whole, what a record that is put or left torn changes, and
-- that a good store stays good.
use Rattle.std.specs.Prelude.{ℕ, ◌+◌, ◌*◌, ◌≡◌, ◌≢◌, ◌<◌, ◌≤◌, ◌↔◌, List, length, take, Option, None, Some}
use Rattle.std.specs.FinMap.{get}
use Rattle.cm_base.specs.Definitions.{Definitions}
use Rattle.cm_base.specs.Derived.{derived_text}
use Rattle.cm_base.specs.Files.{Files}
use Rattle.cm_base.specs.declared.record.Pid.{Pid}
use Rattle.cm_bytes.specs.Hashes.{hash_of}
use Rattle.bin_formats.specs.declared.bin.ToolRecord.{ToolRecord}
use Rattle.bin_formats.specs.Format.{IsRecord, record_file}
use Rattle.bin_store.specs.GoodStore.{IsGoodStore}
use Rattle.bin_store.specs.Laws.{SameBut}
use Rattle.bin_store.specs.Paths.{bin_path, tool_path, interface_path}
use Rattle.bin_store.specs.Stored.{stored_bin, stored_interface, PutsBin, PutsInterface}
use Rattle.bin_store.specs.Whole.{IsWholeRecord}
use Rattle.tool_records.specs.Reading.{ReadsRecord, record_in}
use Rattle.tool_records.specs.Stored.{stored_record, with_record, HasTrueRecord}

-- the record that computes from some bytes is the one that they are
abbrev pub RecordInIsRead : Type 0
RecordInIsRead = (bytes : List ℕ) → ReadsRecord (record_in bytes) bytes

-- a record stands whole in a folder at its unit's place
pub record StandsRecord (files : Files) (unit : List ℕ) (run : ToolRecord) : Type 0 where
  pub bytes : List ℕ
  pub there : get files (tool_path unit) ≡ Some bytes
  pub whole : IsWholeRecord (tool_path unit) bytes run

-- what is stored for a unit is exactly what stands whole at its place, and it is the unit's
pub record StoredRecordIsWhole : Type 0 where
  pub exact : (files : Files) (unit : List ℕ) (run : ToolRecord)
      → (stored_record files unit ≡ Some run) ↔ StandsRecord files unit run
  pub unit : (files : Files) (unit : List ℕ) (run : ToolRecord) → stored_record files unit ≡ Some run
      → run.unit ≡ unit

-- a record of at most 16,777,216 bytes that is put is stored
abbrev pub PutIsStored : Type 0
PutIsStored = (files : Files) (run : ToolRecord) → IsRecord run → length (record_file run) ≤ 16777216
    → stored_record (with_record files run) run.unit ≡ Some run

-- whatever is left at the place of a unit's record changes no binfile, no interface, and no other unit's record
pub record RecordsStayApart : Type 0 where
  pub bins : (before after : Files) (unit other : List ℕ) → SameBut (tool_path unit) before after
      → stored_bin after other ≡ stored_bin before other
  pub interfaces : (before after : Files) (unit : List ℕ) (hash : Pid) → SameBut (tool_path unit) before after
      → stored_interface after hash ≡ stored_interface before hash
  pub records : (before after : Files) (unit other : List ℕ) → SameBut (tool_path unit) before after → other ≢ unit
      → stored_record after other ≡ stored_record before other

-- .. and whatever is left at the place of a binfile or of an interface changes no record
pub record OthersKeepRecords : Type 0 where
  pub bins : (before after : Files) (unit other : List ℕ) → SameBut (bin_path unit) before after
      → stored_record after other ≡ stored_record before other
  pub interfaces : (before after : Files) (text other : List ℕ) → SameBut (interface_path (hash_of text)) before after
      → stored_record after other ≡ stored_record before other

-- a record that is torn counts as absent
abbrev pub TornRecordIsAbsent : Type 0
TornRecordIsAbsent = (files : Files) (run : ToolRecord) (n : ℕ) → IsRecord run → n < length (record_file run)
    → get files (tool_path run.unit) ≡ Some (take n (record_file run)) → stored_record files run.unit ≡ None

-- a good store stays good where a record with the text that its rule derives is put, and where one is left torn, gone
-- or as it was
pub record RecordKeepsGood : Type 0 where
  pub puts : (by : Definitions) (texts : List (List ℕ)) (files : Files) (run : ToolRecord) → IsRecord run
      → run.output ≡ derived_text run.rule run.unit run.input
      → IsGoodStore by texts files → IsGoodStore by texts (with_record files run)
  pub torn : (by : Definitions) (texts : List (List ℕ)) (before after : Files) (run : ToolRecord) (n : ℕ)
      → IsRecord run → run.output ≡ derived_text run.rule run.unit run.input
      → SameBut (tool_path run.unit) before after
      → get after (tool_path run.unit) ≡ Some (take n (record_file run))
      → IsGoodStore by texts before → IsGoodStore by texts after
  pub gone : (by : Definitions) (texts : List (List ℕ)) (before after : Files) (unit : List ℕ)
      → SameBut (tool_path unit) before after → get after (tool_path unit) ≡ None
      → IsGoodStore by texts before → IsGoodStore by texts after

-- in a good store each record is true
abbrev pub GoodRecordsAreTrue : Type 0
GoodRecordsAreTrue = (by : Definitions) (texts : List (List ℕ)) (files : Files) (unit : List ℕ)
    → IsGoodStore by texts files → HasTrueRecord files unit

-- a tool's text is at most four bytes for each of its input's, and what its rule and the unit's name have besides
abbrev pub DerivedTextIsShort : Type 0
DerivedTextIsShort = (rule unit input : List ℕ)
    → length (derived_text rule unit input) ≤ 35 + length rule + length unit + 4 * length input

-- a run within the sizes of tools, units and inputs, with the text that its rule derives
pub record IsSmallRun (run : ToolRecord) : Type 0 where
  pub unit : length run.unit ≤ 1048576
  pub class : length run.class ≤ 1048581
  pub rule : length run.rule ≤ 1048581
  pub input : length run.input ≤ 1048576
  pub derived : run.output ≡ derived_text run.rule run.unit run.input

-- .. has a record that is whole where it is put
pub record SmallRunsFit : Type 0 where
  pub spelled : (run : ToolRecord) → IsSmallRun run → IsRecord run
  pub small : (run : ToolRecord) → IsSmallRun run → length (record_file run) ≤ 16777216
