-- A store that is told and good stays so: the laws of good stores, over what a folder tells.
use Rattle.std.proofs.Common.{◌≡◌, ◌∙◌, ap, sym, subst, refl, inl, inr, ℕ, ◌<◌, ◌^◌, List, [], Option, Some, None, length, cond, ◌∷◌}
use Rattle.std.specs.Prelude.{Contains, is_some}
use Rattle.std.specs.FinMap.{empty, get, insert}
use Rattle.cm_base.specs.Files.{Files, Told, told}
use Rattle.cm_base.specs.Keeping.{Touches, Keeps}
use Rattle.cm_base.specs.Derived.{derived_text}
use Rattle.cm_base.proofs.FileLemmas.{get-insert_same}
use Rattle.cm_base.proofs.KeepingLemmas.{keeps_same, keeps_touches}
use Rattle.cm_bytes.specs.Hashes.{hash_of, HashesApart}
use Rattle.bin_formats.specs.declared.bin.Bin.{Bin}
use Rattle.bin_formats.specs.declared.bin.ToolRecord.{ToolRecord}
use Rattle.bin_formats.specs.Format.{binfile, interface_file, record_file, IsBin, IsRecord}
use Rattle.bin_store.specs.Paths.{bin_path, tool_path, interface_path, linked_path}
use Rattle.cm_base.specs.Definitions.{Definitions}
use Rattle.bin_store.specs.GoodStore.{IsGoodBin, IsGoodStore, StoreIsGood}
use Rattle.bin_store.specs.Stored.{stored_interface, with_interface, PutsInterface, PutsBin}
use Rattle.bin_store.proofs.StoreLaws.{TouchesFiles, Allows, allows_interface, allows_bin, allows_record, allows_linked, good_after, good_empty, good_more}
use Rattle.bin_store.proofs.StoredLaws.{stored-whole}

-- where a folder tells its files, and they are a good store
pub store_is_good : {by : Definitions} {texts : List (List ℕ)} {holds : Option Files} {files : Files}
    → holds ≡ Some files → IsGoodStore by texts files → StoreIsGood by texts holds
store_is_good {files = files} is good = record { files = files; told = is; good = good }

-- what is told is one thing
some_is : (a b : Files) (o : Option Files) → o ≡ Some a → o ≡ Some b → a ≡ b
some_is a b o p q = cc

-- whatever such a folder tells is a good store
pub good_is_told : {by : Definitions} {texts : List (List ℕ)} {holds : Option Files}
    → StoreIsGood by texts holds → Told holds (IsGoodStore by texts)
good_is_told {by} {texts} {holds} store = λ files is. subst (IsGoodStore by texts)
    (some_is store.files files holds store.told is) store.good

-- a folder that tells no files is a good store
pub store_empty : (by : Definitions) (holds : Option Files) → holds ≡ Some empty → StoreIsGood by [] holds
store_empty by holds is = record { files = empty; told = is; good = good_empty by }

-- a good store stays good as more interfaces are known
pub store_more : {by : Definitions} {texts more : List (List ℕ)} {holds : Option Files}
    → ((text : List ℕ) → Contains texts text → Contains more text) → StoreIsGood by texts holds
    → StoreIsGood by more holds
store_more within store = record { files = store.files; told = store.told; good = good_more within store.good }

-- .. and where nothing changes
pub store_same : {by : Definitions} {texts : List (List ℕ)} {old new : Option Files}
    → new ≡ old → StoreIsGood by texts old → StoreIsGood by texts new
store_same same store = record { files = store.files; told = same ∙ store.told; good = store.good }

-- a file is touched in what is told
touched_files : (old new : Option Files) (path bytes : List ℕ) (before : Files) → Touches old new path bytes
    → old ≡ Some before
    → (after : Files) × (new ≡ Some after) × TouchesFiles before after path bytes
touched_files old new path bytes before touched is =
    let one = touched.rest before is in (one.0, one.1, record { others = one.2; here = one.3 })

-- after a write that keeps what a good store needs, whatever the write left
pub store_after : {by : Definitions} {texts : List (List ℕ)} {old new : Option Files} {path bytes : List ℕ}
    → Told old (λ files. Allows by texts files path bytes) → Touches old new path bytes
    → StoreIsGood by texts old → StoreIsGood by texts new
store_after {by} {texts} {old} {new} {path} {bytes} allows touched store =
    let one = touched_files old new path bytes store.files touched store.told in
    record { files = one.0; told = one.1; good = good_after (allows store.files store.told) one.2 store.good }

-- after an interface is written where none stood whole
pub store_after_interface : (by : Definitions) (texts : List (List ℕ)) (old new : Option Files) (text : List ℕ)
    → length text < 2 ^ 32 → Contains texts text → HashesApart texts
    → Told old (λ files. stored_interface files (hash_of text) ≡ None)
    → Touches old new (interface_path (hash_of text)) (interface_file text)
    → StoreIsGood by texts old → StoreIsGood by texts new
store_after_interface by texts old new text below known apart none touched store =
    store_after (λ files is. allows_interface by texts files text below known apart (none files is)) touched store

-- after a good binfile is written
pub store_after_bin : (by : Definitions) (texts : List (List ℕ)) (old new : Option Files) (bin : Bin) → IsBin bin
    → Told old (λ files. IsGoodBin by texts files bin) → Touches old new (bin_path bin.unit) (binfile bin)
    → StoreIsGood by texts old → StoreIsGood by texts new
store_after_bin by texts old new bin fits is touched store =
    store_after (λ files told. allows_bin by texts files bin fits (is files told)) touched store

-- after a tool's record is written
pub store_after_record : (by : Definitions) (texts : List (List ℕ)) (old new : Option Files) (run : ToolRecord)
    → IsRecord run
    → run.output ≡ derived_text run.rule run.unit run.input → Touches old new (tool_path run.unit) (record_file run)
    → StoreIsGood by texts old → StoreIsGood by texts new
store_after_record by texts old new run fits derived touched store =
    store_after (λ files told. allows_record by texts files run fits derived) touched store

-- after any bytes are written as the linked program
pub store_after_linked : (by : Definitions) (texts : List (List ℕ)) (old new : Option Files) (bytes : List ℕ)
    → Touches old new linked_path bytes → StoreIsGood by texts old → StoreIsGood by texts new
store_after_linked by texts old new bytes touched store = store_after
    (λ files told. allows_linked by texts files bytes) touched store

-- after a put of a known interface, whatever it answered
pub store_after_put_interface : (by : Definitions) (texts : List (List ℕ)) (old new : Option Files) (text : List ℕ)
    → length text < 2 ^ 32 → Contains texts text → HashesApart texts
    → PutsInterface old new text → StoreIsGood by texts old → StoreIsGood by texts new
store_after_put_interface by texts old new text below known apart puts store =
    elim puts.leaves [
      | inl same ↦ store_same same store
      | inr wrote ↦ store_after_interface by texts old new text below known apart wrote.0 wrote.1 store
    ]

-- a put of an interface changes its path alone
pub keeps_put_interface : {old new : Option Files} {text : List ℕ} → PutsInterface old new text
    → Keeps old new (interface_path (hash_of text) ∷ [])
keeps_put_interface {old} {new} {text} puts =
    elim puts.leaves [
      | inl same ↦ keeps_same old new (interface_path (hash_of text) ∷ []) same
      | inr wrote ↦ keeps_touches wrote.1
    ]

-- in a good store, a known interface that was put stands whole
pub interface_stands : {by : Definitions} {texts : List (List ℕ)} (files : Files) (text : List ℕ)
    → Contains texts text → HashesApart texts → IsGoodStore by texts files
    → get (with_interface files text) (interface_path (hash_of text)) ≡ Some (interface_file text)
unfolding with_interface
interface_stands {by} {texts} files text known apart good = by_stored (stored_interface files (hash_of text)) refl
  where
    by_stored : (stored : Option (List ℕ)) → stored_interface files (hash_of text) ≡ stored
        → get (cond (is_some stored) files (insert files (interface_path (hash_of text)) (interface_file text)))
        (interface_path (hash_of text))
        ≡ Some (interface_file text)
    by_stored None is = get-insert_same files (interface_path (hash_of text)) (interface_file text)
    by_stored (Some there) is =
        let found = stored-whole files (hash_of text) there is in
        let known_there = good.interfaces (interface_path (hash_of text))
        (interface_file there) there found.0 found.2 in
        let one : there ≡ text = apart.apart there text known_there known (sym found.1) in
        found.0 ∙ ap (λ t. Some (interface_file t)) one

-- .. in what is told
pub interface_is_there : (by : Definitions) (texts : List (List ℕ)) (old new : Option Files) (text : List ℕ)
    → Contains texts text → HashesApart texts → new ≡ told (λ files. with_interface files text) old
    → StoreIsGood by texts old
    → Told new (λ files. get files (interface_path (hash_of text)) ≡ Some (interface_file text))
interface_is_there by texts old new text known apart put store = λ files is.
    let after : new ≡ Some (with_interface store.files text) = put
    ∙ ap (told (λ f. with_interface f text)) store.told in
    let one = some_is (with_interface store.files text) files new after is in
    subst (λ (f : Files). get f (interface_path (hash_of text)) ≡ Some (interface_file text)) one
    (interface_stands store.files text known apart store.good)

-- after a put of a good binfile, whatever it answered
pub store_after_put_bin : (by : Definitions) (texts : List (List ℕ)) (old new : Option Files) (bin : Bin)
    → Told old (λ files. IsGoodBin by texts files bin) → PutsBin old new bin
    → StoreIsGood by texts old → StoreIsGood by texts new
store_after_put_bin by texts old new bin is puts store =
    elim puts.leaves [
      | inl same ↦ store_same same store
      | inr wrote ↦ store_after_bin by texts old new bin wrote.0 is wrote.1 store
    ]

-- a put of a binfile changes its path alone
pub keeps_put_bin : {old new : Option Files} {bin : Bin} → PutsBin old new bin
    → Keeps old new (bin_path bin.unit ∷ [])
keeps_put_bin {old} {new} {bin} puts =
    elim puts.leaves [
      | inl same ↦ keeps_same old new (bin_path bin.unit ∷ []) same
      | inr wrote ↦ keeps_touches wrote.1
    ]
