-- The laws of the store: of its paths, of what makes it good, and of what a put leaves as it was.
use Rattle.std.specs.Prelude.{ℕ, ◌≡◌, ◌≢◌, ◌<◌, ◌↔◌, true, false, List, [], length, take, Option, None, Some, Contains}
use Rattle.std.specs.FinMap.{empty, get, insert, remove}
use Rattle.cm_base.specs.Definitions.{Definitions}
use Rattle.cm_base.specs.Files.{Files, HasNoStore, is_stored, store_part}
use Rattle.cm_base.specs.declared.record.Pid.{Pid}
use Rattle.cm_bytes.specs.Hashes.{hash_of}
use Rattle.bin_formats.specs.declared.bin.Bin.{Bin}
use Rattle.bin_formats.specs.Format.{IsBin, binfile}
use Rattle.bin_store.specs.GoodStore.{IsGoodBin, IsGoodStore}
use Rattle.bin_store.specs.Paths.{bin_path, tool_path, interface_path, linked_path}
use Rattle.bin_store.specs.Stored.{stored_bin, stored_interface}
use Rattle.bin_store.specs.Whole.{IsWholeBin, IsWholeInterface}

-- every path of the store begins with `.cm/`
pub record PathsAreStored : Type 0 where
  pub bins : (unit : List ℕ) → is_stored (bin_path unit) ≡ true
  pub tools : (unit : List ℕ) → is_stored (tool_path unit) ≡ true
  pub interfaces : (hash : Pid) → is_stored (interface_path hash) ≡ true
  pub linked : is_stored linked_path ≡ true

-- paths of one kind tell their units and hashes apart
pub record PathsAreInjective : Type 0 where
  pub bins : (a b : List ℕ) → bin_path a ≡ bin_path b → a ≡ b
  pub tools : (a b : List ℕ) → tool_path a ≡ tool_path b → a ≡ b
  pub interfaces : (a b : List ℕ) → interface_path (hash_of a) ≡ interface_path (hash_of b) → hash_of a ≡ hash_of b

-- a path of one kind is none of another
pub record PathsAreApart : Type 0 where
  pub bin_tool : (a b : List ℕ) → bin_path a ≢ tool_path b
  pub bin_interface : (a : List ℕ) (hash : Pid) → bin_path a ≢ interface_path hash
  pub bin_linked : (a : List ℕ) → bin_path a ≢ linked_path
  pub tool_interface : (a : List ℕ) (hash : Pid) → tool_path a ≢ interface_path hash
  pub tool_linked : (a : List ℕ) → tool_path a ≢ linked_path
  pub interface_linked : (hash : Pid) → interface_path hash ≢ linked_path

-- the empty store is good for no interfaces, by each compiler's definitions
abbrev pub EmptyStoreIsGood : Type 0
EmptyStoreIsGood = (by : Definitions) → IsGoodStore by [] empty

-- a folder in which no store was begun is good for no interfaces: what a first build starts from
abbrev pub NoStoreIsGood : Type 0
NoStoreIsGood = (by : Definitions) (files : Files) → HasNoStore files → IsGoodStore by [] files

-- a store is good by its own files alone
abbrev pub GoodByItsPart : Type 0
GoodByItsPart = (by : Definitions) (texts : List (List ℕ)) (files : Files)
    → IsGoodStore by texts files ↔ IsGoodStore by texts (store_part files)

-- .. so a file of the project that is put or taken away keeps it good
pub record EditKeepsGood : Type 0 where
  pub puts : (by : Definitions) (texts : List (List ℕ)) (files : Files) (path bytes : List ℕ) → is_stored path ≡ false
      → IsGoodStore by texts files → IsGoodStore by texts (insert files path bytes)
  pub removes : (by : Definitions) (texts : List (List ℕ)) (files : Files) (path : List ℕ) → is_stored path ≡ false
      → IsGoodStore by texts files → IsGoodStore by texts (remove files path)

-- a store that is good for some interfaces is good for more
abbrev pub GoodForMore : Type 0
GoodForMore = (by : Definitions) (texts more : List (List ℕ)) (files : Files)
    → ((text : List ℕ) → Contains texts text → Contains more text) → IsGoodStore by texts files
    → IsGoodStore by more files

-- a binfile stands whole in a folder at its unit's place
pub record StandsBin (files : Files) (unit : List ℕ) (bin : Bin) : Type 0 where
  pub bytes : List ℕ
  pub there : get files (bin_path unit) ≡ Some bytes
  pub whole : IsWholeBin (bin_path unit) bytes bin

-- what is stored for a unit is exactly what stands whole at its place, and it is the unit's
pub record StoredBinIsWhole : Type 0 where
  pub exact : (files : Files) (unit : List ℕ) (bin : Bin) → (stored_bin files unit ≡ Some bin) ↔ StandsBin files unit bin
  pub unit : (files : Files) (unit : List ℕ) (bin : Bin) → stored_bin files unit ≡ Some bin → bin.unit ≡ unit

-- in a good store a binfile is good, and its interface is stored, of a known text
pub record HasGoodBin (by : Definitions) (texts : List (List ℕ)) (files : Files) (bin : Bin) : Type 0 where
  pub good : IsGoodBin by texts files bin
  pub text : List ℕ
  pub known : Contains texts text
  pub stored : stored_interface files bin.interface ≡ Some text

abbrev pub GoodBinsAreStored : Type 0
GoodBinsAreStored = (by : Definitions) (texts : List (List ℕ)) (files : Files) (unit : List ℕ) (bin : Bin)
    → IsGoodStore by texts files → stored_bin files unit ≡ Some bin → HasGoodBin by texts files bin

-- two folders that differ at one path at most, whatever stands there
pub record SameBut (path : List ℕ) (before after : Files) : Type 0 where
  pub others : (q : List ℕ) → q ≢ path → get after q ≡ get before q

-- whatever is left at a unit's place changes no other binfile, and no interface
pub record BinsStayApart : Type 0 where
  pub bins : (before after : Files) (unit other : List ℕ) → SameBut (bin_path unit) before after → other ≢ unit
      → stored_bin after other ≡ stored_bin before other
  pub interfaces : (before after : Files) (unit : List ℕ) (hash : Pid) → SameBut (bin_path unit) before after
      → stored_interface after hash ≡ stored_interface before hash

-- whatever is left at an interface's place changes no binfile, and no other interface
pub record InterfacesStayApart : Type 0 where
  pub bins : (before after : Files) (text unit : List ℕ) → SameBut (interface_path (hash_of text)) before after
      → stored_bin after unit ≡ stored_bin before unit
  pub interfaces : (before after : Files) (text : List ℕ) (hash : Pid)
      → SameBut (interface_path (hash_of text)) before after → hash ≢ hash_of text
      → stored_interface after hash ≡ stored_interface before hash

-- a binfile that is torn counts as absent
abbrev pub TornIsAbsent : Type 0
TornIsAbsent = (files : Files) (bin : Bin) (n : ℕ) → IsBin bin → n < length (binfile bin)
    → get files (bin_path bin.unit) ≡ Some (take n (binfile bin)) → stored_bin files bin.unit ≡ None
