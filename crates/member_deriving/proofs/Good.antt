-- A good store stays good through uses of tools.
use Rattle.std.proofs.Common.{◌≡◌, ◌≢◌, ◌∙◌, ap, sym, refl, inl, inr, ℕ, ◌<◌, ◌≤◌, Bool, true, false, cond, List, [], ◌∷◌, length, Some, arith}
use Rattle.std.specs.FinMap.{get}
use Rattle.std.proofs.lemmas.Bool.{cases_lt}
use Rattle.cm_base.specs.Definitions.{Definitions}
use Rattle.cm_base.specs.Derived.{derived_text}
use Rattle.cm_base.specs.Files.{Files}
use Rattle.cm_base.proofs.FileLemmas.{get-insert_same, get-insert_other}
use Rattle.bin_formats.specs.declared.bin.ToolRecord.{ToolRecord}
use Rattle.bin_formats.specs.Format.{record_file}
use Rattle.bin_store.specs.GoodStore.{IsGoodStore}
use Rattle.bin_store.specs.Paths.{tool_path, interface_path}
use Rattle.bin_store.proofs.PathLaws.{bin_is_no_tool, tool_is_no_interface}
use Rattle.tool_records.specs.Stored.{with_record}
use Rattle.tool_records.proofs.Storing.{put_is_good}
use Rattle.tool_deriving.specs.Deriving.{ToolUse, text_of_use, record_of_use, uses, after_use}
use Rattle.tool_deriving.proofs.Truth.{short_fits}
use Rattle.member_deriving.specs.Laws.{UsesKeepStoresGood}

module _ (by : Definitions) (texts : List (List ℕ)) (files : Files) (run : ToolRecord) where
  other : (q : List ℕ) → q ≢ tool_path run.unit → get (with_record files run) q ≡ get files q
  other q apart = get-insert_other files (tool_path run.unit) (record_file run) q apart

  -- a file that is too long for a record is none
  long_is_none : (path bytes : List ℕ) → 16777216 < length (record_file run) → length bytes ≤ 16777216
      → get (with_record files run) path ≡ Some bytes → path ≢ tool_path run.unit
  long_is_none path bytes long small there at =
      let is : record_file run ≡ bytes =
      cc (get-insert_same files (tool_path run.unit) (record_file run), there, ap (get (with_record files run)) at) in
      absurd (omega (arith, long, small, ap length is))

  long_good : 16777216 < length (record_file run) → IsGoodStore by texts files
      → IsGoodStore by texts (with_record files run)
  long_good long good = record {
    bins = λ path bytes bin there whole.
        let before = good.bins path bytes bin
        (sym (other path (λ e. bin_is_no_tool bin.unit run.unit (sym whole.place ∙ e))) ∙ there) whole in
        record {
          input = before.input;
          skeleton = before.skeleton;
          made = before.made;
          skeleton_is = before.skeleton_is;
          made_is = before.made_is;
          bin_is = before.bin_is;
          givens = before.givens;
          known = before.known;
          small = before.small;
          stands = other (interface_path bin.interface) (λ e. tool_is_no_interface run.unit bin.interface (sym e))
              ∙ before.stands;
        };
    interfaces = λ path bytes interface there whole.
        good.interfaces path bytes interface
        (sym (other path (λ e. tool_is_no_interface run.unit _ (sym e ∙ whole.place))) ∙ there) whole;
    records = λ path bytes found there whole.
        good.records path bytes found (sym (other path (long_is_none path bytes long whole.small there)) ∙ there) whole;
  }

  put_good : run.output ≡ derived_text run.rule run.unit run.input → IsGoodStore by texts files
      → IsGoodStore by texts (with_record files run)
  put_good derived good =
      elim (cases_lt 16777216 (length (record_file run))) [
        | inl long ↦ long_good long good
        | inr short ↦ put_is_good by texts files run (short_fits run short) derived good
      ]

use_good : (by : Definitions) (texts : List (List ℕ)) (files : Files) (job : ToolUse) → IsGoodStore by texts files
    → IsGoodStore by texts (after_use files job)
unfolding text_of_use
use_good by texts files job good = by_test (uses files job)
  where
    by_test : (b : Bool) → IsGoodStore by texts (cond b (with_record files (record_of_use job)) files)
    by_test true = put_good by texts files (record_of_use job) refl good
    by_test false = good

pub uses_good : UsesKeepStoresGood
uses_good by texts files [] good = good
uses_good by texts files (job ∷ jobs) good =
    uses_good by texts (after_use files job) jobs (use_good by texts files job good)
