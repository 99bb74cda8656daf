-- A store is good by its own files alone: what is done to other paths keeps it good.
use Rattle.std.proofs.Common.{◌≡◌, ◌≢◌, ◌∙◌, ap, sym, refl, ℕ, Bool, true, false, cond, List, [], Option, None, Some}
use Rattle.std.specs.Prelude.{◌↔◌}
use Rattle.std.specs.FinMap.{get, insert, remove}
use Rattle.cm_base.specs.Definitions.{Definitions}
use Rattle.cm_base.specs.Files.{Files, HasNoStore, is_stored, store_prefix, store_part}
use Rattle.cm_base.specs.declared.record.Pid.{Pid}
use Rattle.cm_base.proofs.FileLemmas.{get-store_part, get-insert_other, get-remove_other}
use Rattle.cm_bytes.specs.Hashes.{hash_of}
use Rattle.bin_formats.specs.declared.bin.Bin.{Bin}
use Rattle.bin_formats.specs.declared.bin.ToolRecord.{ToolRecord}
use Rattle.bin_store.specs.GoodStore.{IsGoodBin, IsGoodStore}
use Rattle.bin_store.specs.Paths.{bin_path, tool_path, interface_path, linked_path}
use Rattle.bin_store.specs.Whole.{IsWholeBin, IsWholeInterface, IsWholeRecord}

-- ---- every path of the store begins with `.cm/`

pub bin_stored : (unit : List ℕ) → is_stored (bin_path unit) ≡ true
unfolding is_stored store_prefix bin_path
bin_stored unit = refl

pub tool_stored : (unit : List ℕ) → is_stored (tool_path unit) ≡ true
unfolding is_stored store_prefix tool_path
tool_stored unit = refl

pub interface_stored : (hash : Pid) → is_stored (interface_path hash) ≡ true
unfolding is_stored store_prefix interface_path
interface_stored hash = refl

pub linked_stored : is_stored linked_path ≡ true
unfolding is_stored store_prefix linked_path
linked_stored = refl

-- ---- folders with one store

-- a good binfile is good where its interface stands too
bin_elsewhere : {by : Definitions} {texts : List (List ℕ)} {a b : Files} {bin : Bin}
    → get b (interface_path bin.interface) ≡ get a (interface_path bin.interface)
    → IsGoodBin by texts a bin → IsGoodBin by texts b bin
bin_elsewhere same good = record {
  input = good.input;
  skeleton = good.skeleton;
  made = good.made;
  skeleton_is = good.skeleton_is;
  made_is = good.made_is;
  bin_is = good.bin_is;
  givens = good.givens;
  known = good.known;
  small = good.small;
  stands = same ∙ good.stands;
}

-- where two folders have one store, both are as good
pub good_elsewhere : (by : Definitions) (texts : List (List ℕ)) (a b : Files)
    → ((path : List ℕ) → is_stored path ≡ true → get b path ≡ get a path) → IsGoodStore by texts a → IsGoodStore by texts b
good_elsewhere by texts a b one good = record {
  bins = λ path bytes bin there whole.
      let at : is_stored path ≡ true = ap is_stored whole.place ∙ bin_stored bin.unit in
      bin_elsewhere (one (interface_path bin.interface) (interface_stored bin.interface))
      (good.bins path bytes bin (sym (one path at) ∙ there) whole);
  interfaces = λ path bytes text there whole.
      let at : is_stored path ≡ true = ap is_stored whole.place ∙ interface_stored (hash_of text) in
      good.interfaces path bytes text (sym (one path at) ∙ there) whole;
  records = λ path bytes run there whole.
      let at : is_stored path ≡ true = ap is_stored whole.place ∙ tool_stored run.unit in
      good.records path bytes run (sym (one path at) ∙ there) whole;
}

-- the part below `.cm/` has the same store
part_same : (files : Files) (path : List ℕ) → is_stored path ≡ true → get (store_part files) path ≡ get files path
part_same files path at = get-store_part files path ∙ ap (λ b. cond b (get files path) None) at

pub good_by_part : (by : Definitions) (texts : List (List ℕ)) (files : Files)
    → IsGoodStore by texts files ↔ IsGoodStore by texts (store_part files)
good_by_part by texts files = (
  good_elsewhere by texts files (store_part files) (part_same files),
  good_elsewhere by texts (store_part files) files (λ path at. sym (part_same files path at)),
)

-- a path of the store is none of the project
stored_apart : (path q : List ℕ) → is_stored path ≡ false → is_stored q ≡ true → q ≢ path
stored_apart path q outside inside same = let at = ap is_stored same in absurd (cc (outside, inside, at))

-- a file of the project that is put
pub put_keeps_good : (by : Definitions) (texts : List (List ℕ)) (files : Files) (path bytes : List ℕ) → is_stored path ≡ false
    → IsGoodStore by texts files → IsGoodStore by texts (insert files path bytes)
put_keeps_good by texts files path bytes outside good =
    good_elsewhere by texts files (insert files path bytes)
    (λ q at. get-insert_other files path bytes q (stored_apart path q outside at)) good

-- .. that is taken away
pub remove_keeps_good : (by : Definitions) (texts : List (List ℕ)) (files : Files) (path : List ℕ) → is_stored path ≡ false
    → IsGoodStore by texts files → IsGoodStore by texts (remove files path)
remove_keeps_good by texts files path outside good =
    good_elsewhere by texts files (remove files path)
    (λ q at. get-remove_other files path q (stored_apart path q outside at)) good

-- a folder in which no store was begun
pub no_store_good : (by : Definitions) (files : Files) → HasNoStore files → IsGoodStore by [] files
no_store_good by files none = record {
  bins = λ path bytes bin there whole.
      absurd (let at : is_stored path ≡ true = ap is_stored whole.place ∙ bin_stored bin.unit in
      let outside = none.none path bytes there in cc (at, outside));
  interfaces = λ path bytes text there whole.
      absurd (let at : is_stored path ≡ true = ap is_stored whole.place ∙ interface_stored (hash_of text) in
      let outside = none.none path bytes there in cc (at, outside));
  records = λ path bytes run there whole.
      absurd (let at : is_stored path ≡ true = ap is_stored whole.place ∙ tool_stored run.unit in
      let outside = none.none path bytes there in cc (at, outside));
}
