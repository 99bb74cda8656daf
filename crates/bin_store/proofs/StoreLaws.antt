-- What keeps a store good: the empty store is, and it stays so whatever a put leaves at its path.
use Rattle.std.proofs.Common.{◌≡◌, ◌≢◌, ◌⊎◌, ◌∙◌, ap, sym, subst, refl, inl, inr, ℕ, ◌<◌, ◌≤◌, ◌^◌, Bool, true, false, List, [], length, take, Some, None, arith}
use Rattle.std.specs.Prelude.{Contains}
use Rattle.std.specs.Ordering.{nat_cmp, eq_by_cmp}
use Rattle.std.specs.Cmp.Lexicographic.{slice_cmp}
use Rattle.std.specs.FinMap.{empty, get, get-empty}
use Rattle.cm_base.specs.Files.{Files}
use Rattle.cm_base.specs.Derived.{derived_text}
use Rattle.cm_base.proofs.FileLemmas.{same_path, path_ties}
use Rattle.cm_bytes.specs.Hashes.{hash_of, HashesApart}
use Rattle.bin_formats.specs.declared.bin.Bin.{Bin}
use Rattle.bin_formats.specs.declared.bin.ToolRecord.{ToolRecord}
use Rattle.bin_formats.specs.Format.{binfile, interface_file, record_file, IsBin, IsRecord}
use Rattle.bin_store.specs.Paths.{bin_path, tool_path, interface_path, linked_path}
use Rattle.bin_store.specs.Whole.{IsWholeBin, IsWholeInterface, IsWholeRecord}
use Rattle.cm_base.specs.Definitions.{Definitions}
use Rattle.bin_store.specs.GoodStore.{IsGoodBin, IsGoodStore}
use Rattle.bin_store.specs.Stored.{stored_interface}
use Rattle.bin_formats.proofs.Formats.{bin_front, interface_front, record_front, length-interface_file}
use Rattle.bin_store.proofs.PathLaws.{interface_path-injective, bin_is_no_tool, bin_is_no_interface, bin_is_not_linked, tool_is_no_interface, tool_is_not_linked, interface_is_not_linked}
use Rattle.bin_store.proofs.StoredLaws.{file-stored}

-- ---- the empty store, and more interfaces

-- the store without files
abbrev no_files : Files
no_files = empty

-- it has nothing at any path
nothing_there : (path bytes : List ℕ) → get no_files path ≡ Some bytes → ⊥
nothing_there path bytes e = absurd (cc (get-empty (slice_cmp nat_cmp) path, e))

-- the empty store is good
pub good_empty : (by : Definitions) → IsGoodStore by [] empty
good_empty by = record {
  bins = λ path bytes bin there whole. absurd (nothing_there path bytes there);
  interfaces = λ path bytes text there whole. absurd (nothing_there path bytes there);
  records = λ path bytes run there whole. absurd (nothing_there path bytes there);
}

-- a good binfile is good where more interfaces are known
good_bin_more : {by : Definitions} {texts more : List (List ℕ)} {files : Files} {bin : Bin}
    → ((text : List ℕ) → Contains texts text → Contains more text) → IsGoodBin by texts files bin
    → IsGoodBin by more files bin
good_bin_more within good = record {
  input = good.input;
  skeleton = good.skeleton;
  made = good.made;
  skeleton_is = good.skeleton_is;
  made_is = good.made_is;
  bin_is = good.bin_is;
  givens = λ k d lt. let given = good.givens k d lt in record { known = within _ given.known; hash = given.hash };
  known = within _ good.known;
  small = good.small;
  stands = good.stands;
}

-- a store that is good for some interfaces is good for more
pub good_more : {by : Definitions} {texts more : List (List ℕ)} {files : Files}
    → ((text : List ℕ) → Contains texts text → Contains more text) → IsGoodStore by texts files
    → IsGoodStore by more files
good_more within good = record {
  bins = λ path bytes bin there whole. good_bin_more within (good.bins path bytes bin there whole);
  interfaces = λ path bytes text there whole. within text (good.interfaces path bytes text there whole);
  records = good.records;
}

-- a store that is as it was is as good
pub good_same : (by : Definitions) (texts : List (List ℕ)) (before after : Files) → after ≡ before
    → IsGoodStore by texts before → IsGoodStore by texts after
good_same by texts before after same good = subst (IsGoodStore by texts) (sym same) good

-- ---- a file that is touched

-- each other path is as it was, and this one has its old bytes, nothing, or a front of the new bytes
pub record TouchesFiles (before after : Files) (path bytes : List ℕ) : Type 0 where
  pub others : (q : List ℕ) → q ≢ path → get after q ≡ get before q
  pub here : (get after path ≡ get before path) ⊎ ((get after path ≡ None) ⊎ ((n : ℕ) × (get after path
      ≡ Some (take n bytes))))

-- what stands there afterwards stood there before, or is a front of the new bytes
found_after : (before after : Files) (path bytes q there : List ℕ) → TouchesFiles before after path bytes
    → get after q ≡ Some there → (get before q ≡ Some there) ⊎ ((n : ℕ) × (q ≡ path) × (there ≡ take n bytes))
found_after before after path bytes q there touched is =
    by_test (eq_by_cmp (slice_cmp nat_cmp) q path) refl
  where
    at_path : q ≡ path → ((get after path ≡ get before path) ⊎ ((get after path
        ≡ None) ⊎ ((n : ℕ) × (get after path ≡ Some (take n bytes)))))
        → (get before q ≡ Some there) ⊎ ((n : ℕ) × (q ≡ path) × (there ≡ take n bytes))
    at_path same (inl old) = inl (ap (get before) same ∙ sym old ∙ ap (get after) (sym same) ∙ is)
    at_path same (inr (inl none)) = let at = ap (get after) (sym same) ∙ is in absurd (cc (none, at))
    at_path same (inr (inr (n, front))) = let at = ap (get after) (sym same) ∙ is in inr (n, same, cc (front, at))

    by_test : (b : Bool) → eq_by_cmp (slice_cmp nat_cmp) q path ≡ b
        → (get before q ≡ Some there) ⊎ ((n : ℕ) × (q ≡ path) × (there ≡ take n bytes))
    by_test true tied = at_path (same_path q path tied) touched.here
    by_test false tied =
        let apart : q ≢ path =
        λ same. cc (tied, ap (λ p. eq_by_cmp (slice_cmp nat_cmp) p path) same, path_ties path) in
        inl (sym (touched.others q apart) ∙ is)

-- what a write has to keep, for the store to stay good: the interfaces of the good binfiles stand elsewhere, and
-- each front of the new bytes that is whole is as good as what was there
pub record Allows (by : Definitions) (texts : List (List ℕ)) (before : Files) (path bytes : List ℕ) : Type 0 where
  pub apart : (bin : Bin) → IsGoodBin by texts before bin → interface_path bin.interface ≢ path
  pub bins : (n : ℕ) (bin : Bin) → IsWholeBin path (take n bytes) bin → IsGoodBin by texts before bin
  pub interfaces : (n : ℕ) (text : List ℕ) → IsWholeInterface path (take n bytes) text → Contains texts text
  pub records : (n : ℕ) (run : ToolRecord) → IsWholeRecord path (take n bytes) run
      → run.output ≡ derived_text run.rule run.unit run.input

-- a good binfile stays good where its interface's path isn't touched
bin_stays : {by : Definitions} {texts : List (List ℕ)} {before after : Files} {path bytes : List ℕ} {bin : Bin}
    → TouchesFiles before after path bytes → interface_path bin.interface ≢ path
    → IsGoodBin by texts before bin → IsGoodBin by texts after bin
bin_stays touched apart good = record {
  input = good.input;
  skeleton = good.skeleton;
  made = good.made;
  skeleton_is = good.skeleton_is;
  made_is = good.made_is;
  bin_is = good.bin_is;
  givens = good.givens;
  known = good.known;
  small = good.small;
  stands = touched.others _ apart ∙ good.stands;
}

-- a store stays good after a write that keeps this, whatever the write left
pub good_after : {by : Definitions} {texts : List (List ℕ)} {before after : Files} {path bytes : List ℕ}
    → Allows by texts before path bytes → TouchesFiles before after path bytes
    → IsGoodStore by texts before → IsGoodStore by texts after
good_after {by} {texts} {before} {after} {path} {bytes} allows touched good = record {
  bins = λ q there bin is whole.
      let old = old_bin q there bin whole (found_after before after path bytes q there touched is) in
      bin_stays touched (allows.apart bin old) old;
  interfaces = λ q there text is whole.
      elim (found_after before after path bytes q there touched is) [
        | inl was ↦ good.interfaces q there text was whole
        | inr new ↦ allows.interfaces new.0 text (moved_interface q there text new.0 new.1 new.2 whole)
      ];
  records = λ q there run is whole.
      elim (found_after before after path bytes q there touched is) [
        | inl was ↦ good.records q there run was whole
        | inr new ↦ allows.records new.0 run (moved_record q there run new.0 new.1 new.2 whole)
      ];
}
  where
    moved_bin : (q there : List ℕ) (bin : Bin) (n : ℕ) → q ≡ path → there ≡ take n bytes → IsWholeBin q there bin
        → IsWholeBin path (take n bytes) bin
    moved_bin q there bin n a b whole = subst (λ p. IsWholeBin p (take n bytes) bin) a (subst
        (λ t. IsWholeBin q t bin) b whole)

    moved_interface : (q there text : List ℕ) (n : ℕ) → q ≡ path → there ≡ take n bytes
        → IsWholeInterface q there text → IsWholeInterface path (take n bytes) text
    moved_interface q there text n a b whole = subst (λ p. IsWholeInterface p (take n bytes) text) a (subst
        (λ t. IsWholeInterface q t text) b whole)

    moved_record : (q there : List ℕ) (run : ToolRecord) (n : ℕ) → q ≡ path → there ≡ take n bytes
        → IsWholeRecord q there run → IsWholeRecord path (take n bytes) run
    moved_record q there run n a b whole = subst (λ p. IsWholeRecord p (take n bytes) run) a (subst
        (λ t. IsWholeRecord q t run) b whole)

    old_bin : (q there : List ℕ) (bin : Bin) → IsWholeBin q there bin
        → (get before q ≡ Some there) ⊎ ((n : ℕ) × (q ≡ path) × (there ≡ take n bytes))
        → IsGoodBin by texts before bin
    old_bin q there bin whole (inl was) = good.bins q there bin was whole
    old_bin q there bin whole (inr new) = allows.bins new.0 bin (moved_bin q there bin new.0 new.1 new.2 whole)

-- ---- an interface

-- the path of a good binfile's interface is that of the hash of a known text, which stands there
interface_apart : {by : Definitions} {texts : List (List ℕ)} {before : Files} (text : List ℕ) (bin : Bin)
    → Contains texts text → HashesApart texts → stored_interface before (hash_of text) ≡ None
    → IsGoodBin by texts before bin → interface_path bin.interface ≢ interface_path (hash_of text)
interface_apart {before = before} text bin known apart none good same =
    let made = good.made.interface in
    let hash : bin.interface ≡ hash_of made = ap (λ (b : Bin). b.interface) good.bin_is in
    let one : made ≡ text =
    apart.apart made text good.known known (interface_path-injective made text (ap interface_path (sym hash)
    ∙ same)) in
    let stands : get before (interface_path (hash_of text)) ≡ Some (interface_file text) =
    ap (get before) (sym same) ∙ good.stands ∙ ap (λ t. Some (interface_file t)) one in
    let small : length text ≤ 1048576 = subst (λ (t : List ℕ). length t ≤ 1048576) one good.small in
    let stored = file-stored before text small stands in
    cc (none, stored)

-- a known interface may be written where none stands whole under its hash
pub allows_interface : (by : Definitions) (texts : List (List ℕ)) (before : Files) (text : List ℕ)
    → length text < 2 ^ 32
    → Contains texts text → HashesApart texts → stored_interface before (hash_of text) ≡ None
    → Allows by texts before (interface_path (hash_of text)) (interface_file text)
allows_interface by texts before text below known apart none = record {
  apart = λ bin good. interface_apart text bin known apart none good;
  bins = λ n bin whole. absurd (bin_is_no_interface bin.unit (hash_of text) (sym whole.place));
  interfaces = λ n found whole.
      let same = interface_front n found text (omega
      (arith, whole.small, ap length whole.spelled, length-interface_file found)) below whole.spelled in
      subst (Contains texts) (sym same) known;
  records = λ n run whole. absurd (tool_is_no_interface run.unit (hash_of text) (sym whole.place));
}

-- a store stays good after an interface is written where none stood whole, whatever the write left
pub good_after_interface : (by : Definitions) (texts : List (List ℕ)) (before after : Files) (text : List ℕ)
    → length text < 2 ^ 32 → Contains texts text → HashesApart texts → stored_interface before (hash_of text) ≡ None
    → TouchesFiles before after (interface_path (hash_of text)) (interface_file text)
    → IsGoodStore by texts before → IsGoodStore by texts after
good_after_interface by texts before after text below known apart none touched good =
    good_after (allows_interface by texts before text below known apart none) touched good

-- ---- a binfile

-- a good binfile may be written at its path
pub allows_bin : (by : Definitions) (texts : List (List ℕ)) (before : Files) (bin : Bin) → IsBin bin
    → IsGoodBin by texts before bin → Allows by texts before (bin_path bin.unit) (binfile bin)
allows_bin by texts before bin fits good = record {
  apart = λ other was same. bin_is_no_interface bin.unit other.interface (sym same);
  bins = λ n found whole. subst (IsGoodBin by texts before) (sym
      (bin_front n found bin whole.fits fits whole.spelled)) good;
  interfaces = λ n text whole. absurd (bin_is_no_interface bin.unit (hash_of text) whole.place);
  records = λ n run whole. absurd (bin_is_no_tool bin.unit run.unit whole.place);
}

-- a store stays good after a good binfile is written, whatever the write left
pub good_after_bin : (by : Definitions) (texts : List (List ℕ)) (before after : Files) (bin : Bin)
    → IsBin bin → IsGoodBin by texts before bin → TouchesFiles before after (bin_path bin.unit) (binfile bin)
    → IsGoodStore by texts before → IsGoodStore by texts after
good_after_bin by texts before after bin fits is touched good = good_after
    (allows_bin by texts before bin fits is) touched good

-- ---- a tool's record, and the linked program

-- a tool's record with the text that its rule derives may be written at its path
pub allows_record : (by : Definitions) (texts : List (List ℕ)) (before : Files) (run : ToolRecord) → IsRecord run
    → run.output ≡ derived_text run.rule run.unit run.input
    → Allows by texts before (tool_path run.unit) (record_file run)
allows_record by texts before run fits derived = record {
  apart = λ other was same. tool_is_no_interface run.unit other.interface (sym same);
  bins = λ n bin whole. absurd (bin_is_no_tool bin.unit run.unit (sym whole.place));
  interfaces = λ n text whole. absurd (tool_is_no_interface run.unit (hash_of text) whole.place);
  records = λ n found whole.
      subst (λ (r : ToolRecord). r.output
      ≡ derived_text r.rule r.unit r.input) (sym
      (record_front n found run whole.fits fits whole.spelled)) derived;
}

-- a store stays good after such a record is written, whatever the write left
pub good_after_record : (by : Definitions) (texts : List (List ℕ)) (before after : Files) (run : ToolRecord)
    → IsRecord run → run.output ≡ derived_text run.rule run.unit run.input
    → TouchesFiles before after (tool_path run.unit) (record_file run)
    → IsGoodStore by texts before → IsGoodStore by texts after
good_after_record by texts before after run fits derived touched good =
    good_after (allows_record by texts before run fits derived) touched good

-- any bytes may be written as the linked program
pub allows_linked : (by : Definitions) (texts : List (List ℕ)) (before : Files) (bytes : List ℕ)
    → Allows by texts before linked_path bytes
allows_linked by texts before bytes = record {
  apart = λ bin was same. interface_is_not_linked bin.interface same;
  bins = λ n bin whole. absurd (bin_is_not_linked bin.unit (sym whole.place));
  interfaces = λ n text whole. absurd (interface_is_not_linked (hash_of text) (sym whole.place));
  records = λ n run whole. absurd (tool_is_not_linked run.unit (sym whole.place));
}

-- a store stays good after a linked program is written, whatever the write left
pub good_after_linked : (by : Definitions) (texts : List (List ℕ)) (before after : Files) (bytes : List ℕ)
    → TouchesFiles before after linked_path bytes → IsGoodStore by texts before → IsGoodStore by texts after
good_after_linked by texts before after bytes touched good = good_after
    (allows_linked by texts before bytes) touched good
