-- What each rule derives.
use Rattle.std.proofs.Common.{◌≡◌, ◌∙◌, ap, sym, refl, ℕ, ◌+◌, ◌<◌, ◌≤◌, ◌^◌, ◌==◌, ◌&&◌, Bool, true, false, cond, List, [], ◌∷◌, ◌++◌, length, take, drop, Option, Some, None, arith}
use Rattle.std.specs.Prelude.{nat_le}
use Rattle.std.specs.Int.{w32, from_be_bytes, to_be_bytes}
use Rattle.std.proofs.lemmas.Bool.{le-leb, eq-eqb}
use Rattle.std.proofs.lemmas.List.{take_at, drop_at, length-append}
use Rattle.std.proofs.lemmas.Nat.{from_be_bytes-to_be_bytes_4}
use Rattle.cm_base.specs.Derived.{only_text, embedded, code_lines, derived_text}
use Rattle.cm_bytes.specs.Fields.{text_of, u32_of}
use Rattle.cm_bytes.proofs.Fields.{length-u32_of, length-text_of}
use Rattle.bundled_tools.specs.Embedding.{embedded_text}
use Rattle.bundled_tools.specs.Lines.{code_text}
use Rattle.bundled_tools.specs.Rules.{embed_rule, literate_rule, prelude_rule}

-- the number of four bytes
number_back : (n : ℕ) → n < 2 ^ 32 → from_be_bytes w32 (u32_of n) ≡ n
unfolding u32_of
number_back n below = from_be_bytes-to_be_bytes_4 n below

-- a text behind its length is that text
only_text_of : (text : List ℕ) → length text < 2 ^ 32 → only_text (text_of text) ≡ Some text
unfolding text_of
only_text_of text below =
    let front : take 4 (u32_of (length text) ++ text) ≡ u32_of (length text) =
    take_at (u32_of (length text)) text 4 (length-u32_of (length text)) in
    let back : drop 4 (u32_of (length text) ++ text) ≡ text =
    drop_at (u32_of (length text)) text 4 (length-u32_of (length text)) in
    let long : nat_le 4 (length (u32_of (length text) ++ text)) ≡ true =
    le-leb 4 (length (u32_of (length text) ++ text))
    (omega (arith, length-append (u32_of (length text)) text, length-u32_of (length text))) in
    let same : (length text == length text) ≡ true = eq-eqb (length text) (length text) refl in
    rw (long, front, back, number_back (length text) below, same) refl

pub embed_derives : (value unit input : List ℕ) → length value < 2 ^ 32
    → derived_text (embed_rule value) unit input ≡ embedded_text value unit input
unfolding derived_text embed_rule embedded_text
embed_derives value unit input below = rw (only_text_of value below) refl

pub literate_derives : (unit input : List ℕ) → derived_text literate_rule unit input ≡ code_text input
unfolding derived_text literate_rule code_text
literate_derives unit input = refl

pub prelude_derives : (head unit input : List ℕ) → length head < 2 ^ 32
    → derived_text (prelude_rule head) unit input ≡ head ++ input
unfolding derived_text prelude_rule
prelude_derives head unit input below = rw (only_text_of head below) refl

pub embed_rule_length : (value : List ℕ) → length (embed_rule value) ≡ 5 + length value
unfolding embed_rule
embed_rule_length value = omega (arith, length-text_of value)

pub prelude_rule_length : (head : List ℕ) → length (prelude_rule head) ≡ 5 + length head
unfolding prelude_rule
prelude_rule_length head = omega (arith, length-text_of head)

pub literate_rule_length : length literate_rule ≡ 1
unfolding literate_rule
literate_rule_length = refl
