-- How long the text is that a rule derives, and the record of it.
use Rattle.std.proofs.Common.{◌≡◌, ◌∙◌, ap, sym, subst, refl, ℕ, ◌+◌, ◌-◌, ◌*◌, ◌/◌, ◌%◌, ◌<◌, ◌≤◌, ◌^◌, ◌==◌, ◌&&◌, ◌||◌, Bool, true, false, cond, not, List, [], ◌∷◌, ◌++◌, length, take, drop, map, flat_map, Option, Some, None, arith}
use Rattle.std.specs.Prelude.{codes, nat_le}
use Rattle.std.specs.Int.{w32, from_be_bytes}
use Rattle.std.specs.Option.{option_map_or}
use Rattle.std.specs.List.{before_first, after_last, suffix_len, position_or_len, slice_split, join_with_byte}
use Rattle.std.proofs.lemmas.List.{length-append, length-take, length-drop, length-map}
use Rattle.std.proofs.lemmas.List.Splits.{join_with_byte-slice_split}
use Rattle.sha2.specs.Sha256.{sha256}
use Rattle.sha2.proofs.Facts256.{length-sha256}
use Rattle.cm_base.specs.ByteClasses.{between, is_letter, is_identifier_byte, capital}
use Rattle.cm_base.specs.Derived.{with_capital, module_of, escaped, embedded, code_line, code_lines, only_text, derived_text}
use Rattle.cm_bytes.specs.Fields.{text_of}
use Rattle.cm_bytes.proofs.Fields.{length-text_of}
use Rattle.bin_formats.specs.declared.bin.ToolRecord.{ToolRecord}
use Rattle.bin_formats.specs.Format.{record_body, record_file, IsRecord}
use Rattle.tool_records.specs.Laws.{IsSmallRun, DerivedTextIsShort, SmallRunsFit}

-- ---- an embedded text

-- a byte of a string has at most four
escaped_short : (byte : ℕ) → length (escaped byte) ≤ 4
escaped_short byte = by_mark ((byte == 34) || (byte == 92))
  where
    digits : List ℕ
    digits = 92 ∷ (48 + byte / 100) ∷ (48 + byte / 10 % 10) ∷ (48 + byte % 10) ∷ []

    by_print : (b : Bool) → length (cond b (byte ∷ []) digits) ≤ 4
    by_print true = omega arith
    by_print false = omega arith

    by_mark : (b : Bool) → length (cond b (92 ∷ byte ∷ []) (cond (between 32 126 byte) (byte ∷ []) digits)) ≤ 4
    by_mark true = omega arith
    by_mark false = by_print (between 32 126 byte)

string_short : (input : List ℕ) → length (flat_map escaped input) ≤ 4 * length input
string_short [] = omega arith
string_short (byte ∷ input) =
    omega (arith, length-append (escaped byte) (flat_map escaped input), escaped_short byte, string_short input)

-- a module's name is at most one byte longer than what it is made of
capital_short : (name : List ℕ) → length (with_capital name) ≤ 1 + length name
capital_short [] = omega arith
capital_short (byte ∷ bytes) = by_letter (is_letter byte)
  where
    by_letter : (b : Bool) → length (cond b (capital byte ∷ bytes) (88 ∷ byte ∷ bytes)) ≤ 1 + length (byte ∷ bytes)
    by_letter true = omega arith
    by_letter false = omega arith

module_short : (unit : List ℕ) → length (module_of unit) ≤ 1 + length unit
module_short unit =
    let slash : ℕ → Bool = λ byte. byte == 47 in
    let dot : ℕ → Bool = λ byte. byte == 46 in
    let change : ℕ → ℕ = λ byte. cond (is_identifier_byte byte) byte 95 in
    let component = after_last slash unit in
    let part = before_first dot component in
    omega (
      arith,
      capital_short (map change part),
      length-map part change,
      length-take (position_or_len dot component) component,
      length-drop (length unit - suffix_len (λ byte. not (slash byte)) unit) unit,
    )

embedded_short : (value unit input : List ℕ)
    → length (embedded value unit input) ≤ 35 + length value + length unit + 4 * length input
embedded_short value unit input =
    let end : List ℕ = codes "\" end" ++ 10 ∷ [] in
    let string = flat_map escaped input ++ end in
    let third : List ℕ = codes " = \"" ++ string in
    let second : List ℕ = codes " = struct val " ++ (value ++ third) in
    omega (
      arith,
      length-append (module_of unit) second,
      length-append value third,
      length-append (flat_map escaped input) end,
      module_short unit,
      string_short input,
    )

-- ---- the code of a literate source

line_short : (line : List ℕ) → length (code_line line) ≤ length line
line_short [] = omega arith
line_short (byte ∷ bytes) = by_mark (byte == 62)
  where
    by_mark : (b : Bool) → length (cond b (32 ∷ bytes) []) ≤ length (byte ∷ bytes)
    by_mark true = omega arith
    by_mark false = omega arith

joined_short : (lines : List (List ℕ))
    → length (join_with_byte 10 (map code_line lines)) ≤ length (join_with_byte 10 lines)
joined_short [] = omega arith
joined_short (line ∷ []) = line_short line
joined_short (line ∷ next ∷ lines) =
    omega (
      arith,
      line_short line,
      joined_short (next ∷ lines),
      length-append line (10 ∷ join_with_byte 10 (next ∷ lines)),
      length-append (code_line line) (10 ∷ join_with_byte 10 (map code_line (next ∷ lines))),
    )

code_short : (input : List ℕ) → length (code_lines input) ≤ length input
code_short input =
    omega (
      arith,
      joined_short (slice_split (λ byte. byte == 10) input),
      ap length (join_with_byte-slice_split 10 input),
    )

-- ---- what a rule derives

-- what is made of a rule's text, where it has one
of_text : (make : List ℕ → List ℕ) (rule : List ℕ) (most : ℕ)
    → ((text : List ℕ) → length text ≤ length rule → length (make text) ≤ most)
    → length (option_map_or make (only_text rule) []) ≤ most
of_text make rule most short =
    by_test (nat_le 4 (length rule) && (from_be_bytes w32 (take 4 rule) == length (drop 4 rule)))
  where
    by_test : (b : Bool) → length (option_map_or make (cond b (Some (drop 4 rule)) None) []) ≤ most
    by_test true = short (drop 4 rule) (omega (arith, length-drop 4 rule))
    by_test false = omega arith

pub derived_short : DerivedTextIsShort
unfolding derived_text
derived_short [] unit input = omega arith
derived_short (kind ∷ rule) unit input = by_embed (kind == 0)
  where
    most : ℕ
    most = 35 + length (kind ∷ rule) + length unit + 4 * length input

    prelude : List ℕ
    prelude = option_map_or (λ (head : List ℕ). head ++ input) (only_text rule) []

    prelude_short : length prelude ≤ most
    prelude_short = of_text (λ (head : List ℕ). head ++ input) rule most
        (λ head short. omega (arith, short, length-append head input))

    by_prelude : (b : Bool) → length (cond b prelude []) ≤ most
    by_prelude true = prelude_short
    by_prelude false = omega arith

    by_literate : (b : Bool) → length (cond b (code_lines input) (cond (kind == 2) prelude [])) ≤ most
    by_literate true = omega (arith, code_short input)
    by_literate false = by_prelude (kind == 2)

    by_embed : (b : Bool)
        → length (cond b (option_map_or (λ (value : List ℕ). embedded value unit input) (only_text rule) [])
        (cond ((kind == 1) && (length rule == 0)) (code_lines input) (cond (kind == 2) prelude []))) ≤ most
    by_embed true = of_text (λ (value : List ℕ). embedded value unit input) rule most
        (λ value short. omega (arith, short, embedded_short value unit input))
    by_embed false = by_literate ((kind == 1) && (length rule == 0))

-- ---- the record of it

pub length-record_file : (run : ToolRecord) → length (record_file run)
    ≡ 56 + length run.unit + length run.class + length run.rule + length run.input + length run.output
unfolding record_file record_body
length-record_file run =
    let fourth : List ℕ = text_of run.input ++ text_of run.output in
    let third : List ℕ = text_of run.rule ++ fourth in
    let second : List ℕ = text_of run.class ++ third in
    let body : List ℕ = 67 ∷ 77 ∷ 84 ∷ 49 ∷ (text_of run.unit ++ second) in
    omega (
      arith,
      length-append body (sha256 body),
      length-sha256 body,
      length-append (text_of run.unit) second,
      length-append (text_of run.class) third,
      length-append (text_of run.rule) fourth,
      length-append (text_of run.input) (text_of run.output),
      length-text_of run.unit,
      length-text_of run.class,
      length-text_of run.rule,
      length-text_of run.input,
      length-text_of run.output,
    )

-- the text of a small run
output_short : (run : ToolRecord) → IsSmallRun run → length run.output ≤ 6291496
output_short run small =
    omega (
      arith,
      ap length small.derived,
      derived_short run.rule run.unit run.input,
      small.unit,
      small.rule,
      small.input,
    )

pub small_fits : (run : ToolRecord) → IsSmallRun run → IsRecord run
small_fits run small = record {
  unit = omega (arith, small.unit);
  class = omega (arith, small.class);
  rule = omega (arith, small.rule);
  input = omega (arith, small.input);
  output = omega (arith, output_short run small);
}

pub small_is_short : (run : ToolRecord) → IsSmallRun run → length (record_file run) ≤ 16777216
small_is_short run small =
    omega (
      arith,
      length-record_file run,
      output_short run small,
      small.unit,
      small.class,
      small.rule,
      small.input,
    )
