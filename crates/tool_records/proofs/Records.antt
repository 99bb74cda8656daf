-- The record that some bytes are: what is spelled is read again, and what is read is spelled so.
use Rattle.std.proofs.Common.{◌≡◌, ◌∙◌, ap, sym, subst, refl, ℕ, ◌<◌, ◌^◌, Bool, true, false, cond, ◌&&◌, List, [], ◌∷◌, ◌++◌, length, Option, Some, None, append-nil}
use Rattle.std.specs.Prelude.{nat_eq}
use Rattle.std.specs.Cmp.Lexicographic.{pointwise, nat_list_eq_equiv, same_text}
use Rattle.std.proofs.lemmas.Bool.{ltb-true, lt-ltb}
use Rattle.cm_bytes.specs.Fields.{IsReadAgain}
use Rattle.bin_formats.specs.declared.bin.ToolRecord.{ToolRecord}
use Rattle.bin_formats.specs.Fitting.{is_u32}
use Rattle.bin_formats.specs.Format.{record_file, IsRecord}
use Rattle.bin_formats.specs.Reading.{record_at, all_of}
use Rattle.bin_formats.proofs.Formats.{record_again}
use Rattle.tool_records.specs.Reading.{ReadsRecord, fits_record, if_spelled, record_in}

both : (a b : Bool) → (a && b) ≡ true → (a ≡ true) × (b ≡ true)
both true b h = (refl, h)
both false b h = absurd cc

below : (n : ℕ) → is_u32 n ≡ true → n < 2 ^ 32
below n h = ltb-true n (2 ^ 32) h

passes : (n : ℕ) → n < 2 ^ 32 → is_u32 n ≡ true
passes n h = lt-ltb n (2 ^ 32) h

-- a record that passes the test has a spelling
record_fits : (run : ToolRecord) → fits_record run ≡ true → IsRecord run
unfolding fits_record
record_fits run h =
    let a = both _ _ h in let b = both _ _ a.1 in let d = both _ _ b.1 in let e = both _ _ d.1 in
    record {
      unit = below _ a.0;
      class = below _ b.0;
      rule = below _ d.0;
      input = below _ e.0;
      output = below _ e.1;
    }

-- .. and one that has a spelling passes it
record_passes : (run : ToolRecord) → IsRecord run → fits_record run ≡ true
unfolding fits_record
record_passes run h =
    rw (
      passes (length run.unit) h.unit,
      passes (length run.class) h.class,
      passes (length run.rule) h.rule,
      passes (length run.input) h.input,
      passes (length run.output) h.output,
    ) refl

-- a test that chooses
chosen : (test : Bool) (x y : ToolRecord) → cond test (Some x) None ≡ Some y → (test ≡ true) × (x ≡ y)
chosen true x y e = (refl, cc)
chosen false x y e = absurd cc

-- what is in some bytes is spelled by them
pub record_in-is : (bytes : List ℕ) (run : ToolRecord) → record_in bytes ≡ Some run → IsRecord run × (bytes ≡ record_file run)
unfolding record_in
record_in-is bytes run e = by_read (all_of (record_at bytes)) e
  where
    by_read : (read : Option ToolRecord) → if_spelled bytes read ≡ Some run → IsRecord run × (bytes ≡ record_file run)
    by_read None e = absurd cc
    by_read (Some x) e =
        let is = chosen (fits_record x && pointwise nat_eq bytes (record_file x)) x run e in
        let two = both (fits_record x) (pointwise nat_eq bytes (record_file x)) is.0 in
        subst (λ (r : ToolRecord). IsRecord r × (bytes ≡ record_file r)) is.1
        (record_fits x two.0, same_text bytes (record_file x) (sym two.1))

-- what they spell is in them
pub record_in-of : (bytes : List ℕ) (run : ToolRecord) → IsRecord run → bytes ≡ record_file run → record_in bytes ≡ Some run
unfolding record_in
record_in-of bytes run fits spelled =
    let read : all_of (record_at bytes) ≡ Some run =
    ap (λ (b : List ℕ). all_of (record_at b)) (spelled ∙ sym (append-nil (record_file run)))
    ∙ ap all_of ((record_again run fits).again []) in
    let same : pointwise nat_eq bytes (record_file run) ≡ true =
    ap (pointwise nat_eq bytes) (sym spelled) ∙ nat_list_eq_equiv.refl bytes in
    ap (if_spelled bytes) read ∙ rw (record_passes run fits, same) refl

-- what code finds is that record
pub reads_record_in : (bytes : List ℕ) (found : Option ToolRecord) → ReadsRecord found bytes → found ≡ record_in bytes
reads_record_in bytes (Some run) reads = sym (record_in-of bytes run reads.0 reads.1)
reads_record_in bytes None never = by_value (record_in bytes) refl
  where
    by_value : (o : Option ToolRecord) → record_in bytes ≡ o → None ≡ o
    by_value None e = refl
    by_value (Some run) e = let is = record_in-is bytes run e in absurd (never run is.0 is.1)

-- the one that computes is the one that they are
pub record_in_is_read : (bytes : List ℕ) → ReadsRecord (record_in bytes) bytes
record_in_is_read bytes = by_value (record_in bytes) refl
  where
    by_value : (o : Option ToolRecord) → record_in bytes ≡ o → ReadsRecord o bytes
    by_value None e = λ run fits spelled.
        let bad : None ≡ Some run = sym e ∙ record_in-of bytes run fits spelled in absurd cc
    by_value (Some run) e = record_in-is bytes run e
