-- The record that is stored for a unit is the one that stands whole at its place, and what changes it.
use Rattle.std.proofs.Common.{◌≡◌, ◌≢◌, ◌∙◌, ap, sym, subst, refl, inl, inr, ℕ, ◌<◌, ◌≤◌, Bool, true, false, cond, List, [], length, take, take_all, Option, Some, None, arith}
use Rattle.std.specs.Prelude.{nat_eq, nat_le}
use Rattle.std.specs.Cmp.Lexicographic.{pointwise, nat_list_eq_equiv, same_text}
use Rattle.std.specs.FinMap.{get, insert}
use Rattle.std.proofs.lemmas.Bool.{cases_lt, leb-true, le-leb}
use Rattle.std.proofs.lemmas.List.{length-take, length-append}
use Rattle.sha2.specs.Sha256.{sha256}
use Rattle.sha2.proofs.Facts256.{length-sha256}
use Rattle.cm_base.specs.Definitions.{Definitions}
use Rattle.cm_base.specs.Derived.{derived_text}
use Rattle.cm_base.specs.Files.{Files, front_read}
use Rattle.cm_base.specs.declared.record.Pid.{Pid}
use Rattle.cm_base.proofs.FileLemmas.{get-insert_same, get-insert_other}
use Rattle.cm_bytes.specs.Hashes.{hash_of}
use Rattle.bin_formats.specs.declared.bin.Bin.{Bin}
use Rattle.bin_formats.specs.declared.bin.ToolRecord.{ToolRecord}
use Rattle.bin_formats.specs.Format.{IsRecord, record_body, record_file}
use Rattle.bin_formats.proofs.Formats.{record_front}
use Rattle.bin_store.specs.GoodStore.{IsGoodBin, IsGoodStore}
use Rattle.bin_store.specs.Laws.{SameBut}
use Rattle.bin_store.specs.Paths.{bin_path, tool_path, interface_path}
use Rattle.bin_store.specs.Stored.{bin_found, stored_bin, interface_found, stored_interface}
use Rattle.bin_store.specs.Whole.{IsWholeBin, IsWholeInterface, IsWholeRecord}
use Rattle.bin_store.proofs.PathLaws.{tool_path-injective, bin_is_no_tool, tool_is_no_interface}
use Rattle.bin_store.proofs.StoreLaws.{TouchesFiles, Allows, allows_record, good_after}
use Rattle.tool_records.specs.Laws.{StandsRecord}
use Rattle.tool_records.specs.Reading.{ReadsRecord, record_in}
use Rattle.tool_records.specs.Stored.{if_unit, record_of_bytes, record_found, stored_record, with_record, HasTrueRecord}
use Rattle.tool_records.proofs.Records.{record_in-is, record_in-of, reads_record_in}

-- no bytes
abbrev no_bytes : List ℕ
no_bytes = []

-- ---- the bytes of a file

-- a test that chooses
chosen : (test : Bool) (x y : ToolRecord) → cond test (Some x) None ≡ Some y → (test ≡ true) × (x ≡ y)
chosen true x y e = (refl, cc)
chosen false x y e = absurd cc

-- a record of this unit
unit_is : (unit : List ℕ) (found : Option ToolRecord) (run : ToolRecord) → if_unit unit found ≡ Some run
    → (found ≡ Some run) × (run.unit ≡ unit)
unit_is unit None run e = absurd cc
unit_is unit (Some x) run e =
    let is = chosen (pointwise nat_eq x.unit unit) x run e in
    (ap (λ (r : ToolRecord). Some r) is.1, subst (λ (r : ToolRecord). r.unit ≡ unit) is.1 (same_text x.unit unit (sym is.0)))

-- what some bytes have for a unit
bytes_is : (unit bytes : List ℕ) (run : ToolRecord) → record_of_bytes unit bytes ≡ Some run
    → (length bytes ≤ 16777216) × (record_in bytes ≡ Some run) × (run.unit ≡ unit)
bytes_is unit bytes run e = by_size (nat_le (length bytes) 16777216) refl e
  where
    by_size : (b : Bool) → nat_le (length bytes) 16777216 ≡ b → cond b (if_unit unit (record_in bytes)) None ≡ Some run
        → (length bytes ≤ 16777216) × (record_in bytes ≡ Some run) × (run.unit ≡ unit)
    by_size false is e = absurd cc
    by_size true is e =
        let two = unit_is unit (record_in bytes) run e in (leb-true (length bytes) 16777216 is, two.0, two.1)

bytes_of : (unit bytes : List ℕ) (run : ToolRecord) → length bytes ≤ 16777216 → record_in bytes ≡ Some run
    → run.unit ≡ unit → record_of_bytes unit bytes ≡ Some run
bytes_of unit bytes run small is of =
    let one : nat_le (length bytes) 16777216 ≡ true = le-leb (length bytes) 16777216 small in
    let two : pointwise nat_eq run.unit unit ≡ true =
    ap (pointwise nat_eq run.unit) (sym of) ∙ nat_list_eq_equiv.refl run.unit in
    rw (one, is, two) refl

-- ---- what is stored is what stands whole

-- what is stored stands whole at its unit's place
stands : (files : Files) (unit : List ℕ) (run : ToolRecord) (file : Option (List ℕ)) → get files (tool_path unit) ≡ file
    → record_found unit file ≡ Some run → StandsRecord files unit run × (run.unit ≡ unit)
stands files unit run None there e = absurd cc
stands files unit run (Some bytes) there e =
    let is = bytes_is unit bytes run e in
    let spells = record_in-is bytes run is.1 in (
      record {
        bytes = bytes;
        there = there;
        whole = record {
          fits = spells.0;
          spelled = spells.1;
          small = is.0;
          place = ap tool_path (sym is.2);
        };
      },
      is.2,
    )

pub record_is_whole : (files : Files) (unit : List ℕ) (run : ToolRecord) → stored_record files unit ≡ Some run
    → StandsRecord files unit run
unfolding stored_record
record_is_whole files unit run e = (stands files unit run (get files (tool_path unit)) refl e).0

pub record_unit : (files : Files) (unit : List ℕ) (run : ToolRecord) → stored_record files unit ≡ Some run → run.unit ≡ unit
unfolding stored_record
record_unit files unit run e = (stands files unit run (get files (tool_path unit)) refl e).1

-- what stands whole there is stored
pub record_is_stored : (files : Files) (unit : List ℕ) (run : ToolRecord) → StandsRecord files unit run
    → stored_record files unit ≡ Some run
unfolding stored_record
record_is_stored files unit run h =
    ap (record_found unit) h.there
    ∙ bytes_of unit h.bytes run h.whole.small (record_in-of h.bytes run h.whole.fits h.whole.spelled)
    (sym (tool_path-injective unit run.unit h.whole.place))

-- a record that is put is stored, where it isn't too long
pub put_is_stored : (files : Files) (run : ToolRecord) → IsRecord run → length (record_file run) ≤ 16777216
    → stored_record (with_record files run) run.unit ≡ Some run
put_is_stored files run fits small =
    record_is_stored (with_record files run) run.unit run (record {
      bytes = record_file run;
      there = get-insert_same files (tool_path run.unit) (record_file run);
      whole = record { fits = fits; spelled = refl; small = small; place = refl };
    })

-- in a good store each record is true
pub good_is_true : (by : Definitions) (texts : List (List ℕ)) (files : Files) (unit : List ℕ)
    → IsGoodStore by texts files → HasTrueRecord files unit
good_is_true by texts files unit good = record {
  derived = λ run is.
      let at = record_is_whole files unit run is in
      good.records (tool_path unit) at.bytes run at.there at.whole;
}

-- ---- how code finds it

-- none in too many bytes
pub too_long : (unit bytes : List ℕ) → 16777216 < length bytes → record_of_bytes unit bytes ≡ None
too_long unit bytes lt = by_size (nat_le (length bytes) 16777216) refl
  where
    by_size : (b : Bool) → nat_le (length bytes) 16777216 ≡ b → cond b (if_unit unit (record_in bytes)) None ≡ None
    by_size false is = refl
    by_size true is = absurd (omega (arith, leb-true (length bytes) 16777216 is, lt))

-- the one that is read, where it is of this unit
pub read_of_unit : (unit bytes : List ℕ) (found made : Option ToolRecord) → length bytes ≤ 16777216
    → ReadsRecord found bytes → made ≡ if_unit unit found → made ≡ record_of_bytes unit bytes
read_of_unit unit bytes found made small reads is =
    let one : nat_le (length bytes) 16777216 ≡ true = le-leb (length bytes) 16777216 small in
    is ∙ ap (if_unit unit) (reads_record_in bytes found reads) ∙ rw one refl

-- a front of one byte more than a record may have is as good as all of it
record_found-front : (unit : List ℕ) (there : Option (List ℕ))
    → record_found unit (front_read 16777216 there) ≡ record_found unit there
record_found-front unit None = refl
record_found-front unit (Some bytes) =
    elim (cases_lt 16777216 (length bytes)) [
      | inl more ↦ too_long unit (take 16777217 bytes) (omega (arith, length-take 16777217 bytes)) ∙ sym (too_long unit bytes more)
      | inr less ↦ ap (record_of_bytes unit) (take_all 16777217 bytes (omega arith))
    ]

-- what was read says what is stored
pub stored_record_read : (files : Files) (unit path : List ℕ) (file : Option (List ℕ)) → path ≡ tool_path unit
    → file ≡ front_read 16777216 (get files path) → record_found unit file ≡ stored_record files unit
unfolding stored_record
stored_record_read files unit path file at read =
    ap (record_found unit) read ∙ record_found-front unit (get files path)
    ∙ ap (λ (p : List ℕ). record_found unit (get files p)) at

-- ---- what a put changes

-- a torn record is none
pub torn_absent : (files : Files) (run : ToolRecord) (n : ℕ) → IsRecord run → n < length (record_file run)
    → get files (tool_path run.unit) ≡ Some (take n (record_file run)) → stored_record files run.unit ≡ None
torn_absent files run n fits short there = by_stored (stored_record files run.unit) refl
  where
    by_stored : (o : Option ToolRecord) → stored_record files run.unit ≡ o → o ≡ None
    by_stored None e = refl
    by_stored (Some found) e =
        let at = record_is_whole files run.unit found e in
        let front : take n (record_file run) ≡ at.bytes = cc (there, at.there) in
        let same : found ≡ run = record_front n found run at.whole.fits fits (front ∙ at.whole.spelled) in
        let whole : take n (record_file run) ≡ record_file run = front ∙ at.whole.spelled ∙ ap record_file same in
        absurd (omega (arith, ap length whole, length-take n (record_file run), short))

-- a binfile, where a record is put
pub record_no_bin : (before after : Files) (unit other : List ℕ) → SameBut (tool_path unit) before after
    → stored_bin after other ≡ stored_bin before other
unfolding stored_bin
record_no_bin before after unit other same =
    ap (bin_found other) (same.others (bin_path other) (bin_is_no_tool other unit))

-- an interface
pub record_no_interface : (before after : Files) (unit : List ℕ) (hash : Pid) → SameBut (tool_path unit) before after
    → stored_interface after hash ≡ stored_interface before hash
unfolding stored_interface
record_no_interface before after unit hash same =
    ap (interface_found hash) (same.others (interface_path hash) (λ e. tool_is_no_interface unit hash (sym e)))

-- another unit's record
pub record_no_record : (before after : Files) (unit other : List ℕ) → SameBut (tool_path unit) before after → other ≢ unit
    → stored_record after other ≡ stored_record before other
unfolding stored_record
record_no_record before after unit other same apart =
    ap (record_found other) (same.others (tool_path other) (λ e. apart (tool_path-injective other unit e)))

-- a record, where a binfile is put
pub bin_no_record : (before after : Files) (unit other : List ℕ) → SameBut (bin_path unit) before after
    → stored_record after other ≡ stored_record before other
unfolding stored_record
bin_no_record before after unit other same =
    ap (record_found other) (same.others (tool_path other) (λ e. bin_is_no_tool unit other (sym e)))

-- .. where an interface is put
pub interface_no_record : (before after : Files) (text other : List ℕ)
    → SameBut (interface_path (hash_of text)) before after → stored_record after other ≡ stored_record before other
unfolding stored_record
interface_no_record before after text other same =
    ap (record_found other) (same.others (tool_path other) (tool_is_no_interface other (hash_of text)))

-- ---- a good store stays good

-- whatever is left of a true record
pub touched_is_good : (by : Definitions) (texts : List (List ℕ)) (before after : Files) (run : ToolRecord) → IsRecord run
    → run.output ≡ derived_text run.rule run.unit run.input
    → TouchesFiles before after (tool_path run.unit) (record_file run)
    → IsGoodStore by texts before → IsGoodStore by texts after
touched_is_good by texts before after run fits derived touched good =
    good_after (allows_record by texts before run fits derived) touched good

pub put_is_good : (by : Definitions) (texts : List (List ℕ)) (files : Files) (run : ToolRecord) → IsRecord run
    → run.output ≡ derived_text run.rule run.unit run.input
    → IsGoodStore by texts files → IsGoodStore by texts (with_record files run)
put_is_good by texts files run fits derived good =
    touched_is_good by texts files (with_record files run) run fits derived (record {
      others = λ q apart. get-insert_other files (tool_path run.unit) (record_file run) q apart;
      here = inr (inr (
        length (record_file run),
        get-insert_same files (tool_path run.unit) (record_file run)
            ∙ ap (λ (b : List ℕ). Some b) (sym (take_all (length (record_file run)) (record_file run) (omega arith))),
      ));
    }) good

pub torn_is_good : (by : Definitions) (texts : List (List ℕ)) (before after : Files) (run : ToolRecord) (n : ℕ)
    → IsRecord run → run.output ≡ derived_text run.rule run.unit run.input
    → SameBut (tool_path run.unit) before after
    → get after (tool_path run.unit) ≡ Some (take n (record_file run))
    → IsGoodStore by texts before → IsGoodStore by texts after
torn_is_good by texts before after run n fits derived same there good =
    touched_is_good by texts before after run fits derived
    (record { others = same.others; here = inr (inr (n, there)) }) good

-- no record is spelled by nothing
nothing_spells : (run : ToolRecord) → no_bytes ≡ record_file run → ⊥
unfolding record_file
nothing_spells run e = omega (arith, ap length e, length-append (record_body run) (sha256 (record_body run)), length-sha256 (record_body run))

nothing : (n : ℕ) → take n no_bytes ≡ no_bytes
nothing n = take_all n no_bytes (omega arith)

-- nothing is needed of what is gone
gone_allows : (by : Definitions) (texts : List (List ℕ)) (before : Files) (unit : List ℕ)
    → Allows by texts before (tool_path unit) []
gone_allows by texts before unit = record {
  apart = λ bin good same. tool_is_no_interface unit bin.interface (sym same);
  bins = λ n bin whole. absurd (bin_is_no_tool bin.unit unit (sym whole.place));
  interfaces = λ n text whole. absurd (tool_is_no_interface unit (hash_of text) whole.place);
  records = λ n run whole. absurd (empty_is_none n run whole);
}
  where
    empty_is_none : (n : ℕ) (run : ToolRecord) → IsWholeRecord (tool_path unit) (take n no_bytes) run → ⊥
    empty_is_none n run whole = nothing_spells run (sym (nothing n) ∙ whole.spelled)

pub gone_is_good : (by : Definitions) (texts : List (List ℕ)) (before after : Files) (unit : List ℕ)
    → SameBut (tool_path unit) before after → get after (tool_path unit) ≡ None
    → IsGoodStore by texts before → IsGoodStore by texts after
gone_is_good by texts before after unit same none good =
    good_after (gone_allows by texts before unit)
    (record { others = same.others; here = inr (inl none) }) good
