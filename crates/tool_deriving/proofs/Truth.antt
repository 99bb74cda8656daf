-- A record with the text of a use leaves the records of all units true.
use Rattle.std.proofs.Common.{◌≡◌, ◌≢◌, ◌∙◌, ap, sym, subst, refl, ℕ, ◌≤◌, Bool, true, false, cond, List, length, take_all, Some, arith}
use Rattle.std.specs.Prelude.{nat_eq}
use Rattle.std.specs.Cmp.Lexicographic.{pointwise, nat_list_eq_equiv, same_text}
use Rattle.cm_base.specs.Derived.{derived_text}
use Rattle.cm_base.specs.Files.{Files}
use Rattle.cm_base.proofs.FileLemmas.{get-insert_same, get-insert_other}
use Rattle.bin_formats.specs.declared.bin.ToolRecord.{ToolRecord}
use Rattle.bin_formats.specs.Format.{IsRecord, record_file}
use Rattle.bin_formats.proofs.Formats.{record_front}
use Rattle.bin_store.specs.Laws.{SameBut}
use Rattle.bin_store.specs.Paths.{tool_path}
use Rattle.tool_records.specs.Stored.{stored_record, with_record, HasTrueRecord}
use Rattle.tool_records.proofs.Sizes.{length-record_file}
use Rattle.tool_records.proofs.Storing.{record_is_whole, record_no_record}
use Rattle.tool_deriving.specs.Deriving.{ToolUse, text_of_use, record_of_use, uses, after_use}

-- a record of a file's size has a spelling
pub short_fits : (run : ToolRecord) → length (record_file run) ≤ 16777216 → IsRecord run
short_fits run short = record {
  unit = omega (arith, length-record_file run, short);
  class = omega (arith, length-record_file run, short);
  rule = omega (arith, length-record_file run, short);
  input = omega (arith, length-record_file run, short);
  output = omega (arith, length-record_file run, short);
}

-- what is found in the place of a record that was put is that record
found_is_put : (files : Files) (run found : ToolRecord) → stored_record (with_record files run) run.unit ≡ Some found
    → found ≡ run
found_is_put files run found is =
    let at = record_is_whole (with_record files run) run.unit found is in
    let bytes : record_file run ≡ at.bytes = cc (get-insert_same files (tool_path run.unit) (record_file run), at.there) in
    let short : length (record_file run) ≤ 16777216 = subst (λ (b : List ℕ). length b ≤ 16777216) (sym bytes) at.whole.small in
    record_front (length (record_file run)) found run at.whole.fits (short_fits run short)
    (take_all (length (record_file run)) (record_file run) (omega arith) ∙ bytes ∙ at.whole.spelled)

-- a record with its text is put
put_true : (files : Files) (run : ToolRecord) (unit : List ℕ) → run.output ≡ derived_text run.rule run.unit run.input
    → HasTrueRecord files unit → HasTrueRecord (with_record files run) unit
put_true files run unit derived true_record = by_unit (pointwise nat_eq unit run.unit) refl
  where
    others : SameBut (tool_path run.unit) files (with_record files run)
    others = record { others = λ q apart. get-insert_other files (tool_path run.unit) (record_file run) q apart }

    by_unit : (b : Bool) → pointwise nat_eq unit run.unit ≡ b → HasTrueRecord (with_record files run) unit
    by_unit true e =
        let same : unit ≡ run.unit = same_text unit run.unit (sym e) in
        record {
          derived = λ found is.
              let found_is : found ≡ run =
              found_is_put files run found (ap (stored_record (with_record files run)) (sym same) ∙ is) in
              subst (λ (r : ToolRecord). r.output ≡ derived_text r.rule r.unit r.input) (sym found_is) derived;
        }
    by_unit false e =
        let apart : unit ≢ run.unit = λ same. absurd (cc (e, ap (pointwise nat_eq unit) (sym same), nat_list_eq_equiv.refl unit)) in
        record {
          derived = λ found is.
              true_record.derived found (sym (record_no_record files (with_record files run) run.unit unit others apart) ∙ is);
        }

pub use_keeps_true : (files : Files) (job : ToolUse) (unit : List ℕ) → HasTrueRecord files unit
    → HasTrueRecord (after_use files job) unit
unfolding text_of_use
use_keeps_true files job unit true_record = by_test (uses files job)
  where
    by_test : (b : Bool) → HasTrueRecord (cond b (with_record files (record_of_use job)) files) unit
    by_test true = put_true files (record_of_use job) unit refl true_record
    by_test false = true_record
