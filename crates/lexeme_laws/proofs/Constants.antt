-- Constants are within their limits.
use Rattle.std.proofs.Common.{◌≡◌, ℕ, zero, suc, ◌+◌, ◌-◌, ◌<◌, ◌≤◌, Bool, true, false, ◌==◌, ◌&&◌, nat_le, if◌then◌else◌, List, [], ◌∷◌, ◌++◌, get_or, take, drop, Option, Some, None, refl, arith, inl, inr}
use Rattle.std.specs.Prelude.{⊤, FitsSigned, option_map}
use Rattle.std.specs.Int.{w64}
use Rattle.std.proofs.lemmas.Bool.{and_parts, cases_Bool}
use Rattle.std.proofs.lemmas.Bool.Decides.{nat_tests}
use Rattle.std.specs.List.{prefix_len, list_all}
use Rattle.std.specs.Str.Parse.{digits_value}
use Rattle.sml_lexer.specs.declared.lexeme.LexemeKind.TheVariants as kind
use Rattle.sml_lexer.specs.Cuttings.{front_of}
use Rattle.sml_lexer.specs.Classes.{first, is_digit, is_blank}
use Rattle.sml_lexer.specs.Numbers.{sign_len, begins_hex, signed, in_range, integer, hex_front, decimal_front, is_left_out, unsigned_front, number_front}
use Rattle.sml_lexer.specs.Names.{word_front}
use Rattle.sml_lexer.specs.Quoted.{is_plain, simple_escape, byte_item, control_escape, decimal_escape, gap_item, escape_item, item, item_bytes, longer, item_and_rest, items_after, quoted, string_lexeme, string_front, one_byte, character_lexeme, character_or, character_front}
use Rattle.lexeme_laws.specs.Limits.{is_byte, AreBytes}
use Rattle.lexeme_laws.proofs.Words.{Shows, shows_kind}

-- ---- integers

signed_fits : (negative : Bool) (n : ℕ) → in_range negative n ≡ true → FitsSigned w64 (signed negative n)
unfolding in_range
signed_fits false n h = record { sfits = grind (arith, nat_tests) }
signed_fits true zero h = record { sfits = omega arith }
signed_fits true (suc n) h = record { sfits = grind (arith, nat_tests) }

integer_good : (negative : Bool) (n : ℕ) (label : Bool) (len : ℕ) → Shows front_of (integer negative n label len)
unfolding integer
integer_good negative n label len =
    elim (cases_Bool (in_range negative n)) [ inl e ↦ rw e (shows_kind (kind.Int (signed negative n) label) len (signed_fits negative n e)) | inr e ↦ rw e (λ k m same. absurd (cc)) ]

unsigned_good : (sign : ℕ) (digits : List ℕ) → Shows front_of (unsigned_front sign digits)
unfolding unsigned_front hex_front decimal_front
unsigned_good sign digits =
    elim (cases_Bool (begins_hex digits)) [
      | inl e ↦ rw e (integer_good _ _ _ _)
      | inr e ↦ elim (cases_Bool (is_left_out sign digits)) [ inl f ↦ rw (e, f) (λ k m same. absurd (cc)) | inr f ↦ rw (e, f) (integer_good _ _ _ _) ]
    ]

pub number_good : (text : List ℕ) → Shows front_of (number_front text)
unfolding number_front
number_good text = unsigned_good (sign_len text) (drop (sign_len text) text)

-- ---- strings and characters

-- a byte, where there is one
abbrev IsLow : Option ℕ → Type 0
IsLow None = ⊤
IsLow (Some b) = is_byte b ≡ true

-- an item stands for a byte, or for none
abbrev GoodItem : {I : Type 0} → Option I → (I → Option ℕ) → Type 0
GoodItem None byte = ⊤
GoodItem (Some i) byte = IsLow (byte i)

abbrev IsGoodString : Option (List ℕ × ℕ) → Type 0
IsGoodString None = ⊤
IsGoodString (Some s) = AreBytes s.0

both : (a b : Bool) → a ≡ true → b ≡ true → a && b ≡ true
both true b first second = second
both false b first second = first

low-byte : (b most : ℕ) → most ≤ 255 → b ≤ most → is_byte b ≡ true
low-byte b most low under = let below : b < 256 = omega arith in grind (arith, nat_tests)

control_good : (c : ℕ) → GoodItem (control_escape c) (λ i. i.byte)
control_good c =
    elim (cases_Bool (nat_le 64 c && nat_le c 95)) [
      | inl e ↦
          let two = (and_parts (nat_le 64 c) (nat_le c 95) e).1 in
          let below : c ≤ 95 = grind (arith, nat_tests) in
          rw e (low-byte (c - 64) 95 (omega arith) (omega arith))
      | inr e ↦ rw e tt
    ]

decimal_good : (text : List ℕ) → GoodItem (decimal_escape text) (λ i. i.byte)
unfolding decimal_escape
decimal_good text =
    let n = digits_value 10 (take 3 (drop 1 text)) in
    let digits : Bool = (is_digit (get_or text 1 0) && is_digit (get_or text 2 0)) && is_digit (get_or text 3 0) in
    elim (cases_Bool (digits && nat_le n 255)) [
      | inl e ↦
          let two = (and_parts digits (nat_le n 255) e).1 in
          let below : n ≤ 255 = grind (arith, nat_tests) in
          rw e (low-byte n 255 (omega arith) below)
      | inr e ↦ rw e tt
    ]

gap_good : (text : List ℕ) → GoodItem (gap_item text) (λ i. i.byte)
unfolding gap_item
gap_good text =
    let n = prefix_len is_blank (drop 1 text) in
    elim (cases_Bool (get_or text (n + 1) 0 == 92)) [ inl e ↦ rw e tt | inr e ↦ rw e tt ]

low_if : (test : Bool) (b : ℕ) (or : Option ℕ) → is_byte b ≡ true → IsLow or → IsLow (if test then Some b else or)
low_if true b or first second = first
low_if false b or first second = second

simple_low : (c : ℕ) → IsLow (simple_escape c)
simple_low c =
    low_if (c == 97) 7 _ refl (low_if (c == 98) 8 _ refl (low_if (c == 116) 9 _ refl (low_if (c == 110) 10 _ refl
    (low_if (c == 118) 11 _ refl (low_if (c == 102) 12 _ refl (low_if (c == 114) 13 _ refl (low_if (c == 92) 92 _ refl
    (low_if (c == 34) 34 None refl tt))))))))

low_item : (found : Option ℕ) → IsLow found → GoodItem (option_map (λ b. byte_item b 2) found) (λ i. i.byte)
low_item None low = tt
low_item (Some b) low = low

escape_good : (text : List ℕ) → GoodItem (escape_item text) (λ i. i.byte)
unfolding escape_item
escape_good text =
    let c = get_or text 1 0 in
    elim (cases_Bool (c == 94)) [
      | inl e ↦ rw e (control_good (get_or text 2 0))
      | inr e ↦ elim (cases_Bool (is_digit c)) [
        | inl d ↦ rw (e, d) (decimal_good text)
        | inr d ↦ elim (cases_Bool (is_blank c)) [
          | inl b ↦ rw (e, d, b) (gap_good text)
          | inr b ↦ rw (e, d, b) (low_item (simple_escape c) (simple_low c))
        ]
      ]
    ]

item_good : (b : ℕ) (bs : List ℕ) → is_byte b ≡ true → GoodItem (item (b ∷ bs)) (λ i. i.byte)
unfolding item
item_good b bs is =
    elim (cases_Bool (is_plain b)) [
      | inl p ↦ rw p is
      | inr p ↦ elim (cases_Bool (b == 92)) [ inl e ↦ rw (p, e) (escape_good (b ∷ bs)) | inr e ↦ rw (p, e) tt ]
    ]

low_bytes : (found : Option ℕ) → IsLow found → AreBytes (item_bytes found)
low_bytes None low = refl
low_bytes (Some b) low = both (is_byte b) true low refl

appended : (xs ys : List ℕ) → AreBytes xs → AreBytes ys → AreBytes (xs ++ ys)
appended [] ys first second = second
appended (x ∷ xs) ys first second =
    let parts = and_parts (is_byte x) (list_all is_byte xs) first in
    both (is_byte x) (list_all is_byte (xs ++ ys)) parts.0 (appended xs ys parts.1 second)

longer_good : (bytes : List ℕ) (len : ℕ) (rest : Option (List ℕ × ℕ)) → AreBytes bytes → IsGoodString rest
    → IsGoodString (longer bytes len rest)
longer_good bytes len None are good = tt
longer_good bytes len (Some s) are good = appended bytes s.0 are good

quote_good : (b : ℕ) → IsGoodString (if b == 34 then Some ([], 1) else None)
quote_good b = elim (cases_Bool (b == 34)) [ inl e ↦ rw e refl | inr e ↦ rw e tt ]

items_good : (passed : ℕ) (text : List ℕ) → AreBytes text → IsGoodString (items_after passed text)
items_good zero [] are = tt
items_good (suc passed) [] are = tt
items_good (suc passed) (b ∷ bs) are =
    let parts = and_parts (is_byte b) (list_all is_byte bs) are in
    longer_good [] 1 (items_after passed bs) refl (items_good passed bs parts.1)
items_good zero (b ∷ bs) are =
    let parts = and_parts (is_byte b) (list_all is_byte bs) are in
    (elim (item (b ∷ bs)) as (λ o. GoodItem o (λ i. i.byte) → IsGoodString (item_and_rest o b (λ passed. items_after passed bs))) [
      | None ↦ λ good. quote_good b
      | Some i ↦ λ good.
          longer_good (item_bytes i.byte) 1 (items_after (i.len - 1) bs) (low_bytes i.byte good) (items_good (i.len - 1) bs parts.1)
    ]) (item_good b bs parts.0)

pub dropped : (n : ℕ) (text : List ℕ) → AreBytes text → AreBytes (drop n text)
dropped zero text are = are
dropped (suc n) [] are = refl
dropped (suc n) (b ∷ bs) are = dropped n bs (and_parts (is_byte b) (list_all is_byte bs) are).1

quoted_good : (text : List ℕ) → AreBytes text → IsGoodString (quoted text)
unfolding quoted
quoted_good text are = longer_good [] 1 (items_after 0 (drop 1 text)) refl (items_good 0 (drop 1 text) (dropped 1 text are))

string_is : (s : Option (List ℕ × ℕ)) → IsGoodString s → Shows front_of (string_lexeme s)
string_is None good = λ k n same. absurd (cc)
string_is (Some s) good = shows_kind (kind.Str s.0) s.1 good

pub string_good : (text : List ℕ) → AreBytes text → Shows front_of (string_front text)
unfolding string_front
string_good text are = string_is (quoted text) (quoted_good text are)

one_byte_is : (bytes : List ℕ) (len : ℕ) (text : List ℕ) → AreBytes bytes → Shows front_of (word_front text)
    → Shows front_of (character_lexeme (one_byte bytes) len (word_front text))
one_byte_is [] len text are good = good
one_byte_is (b ∷ []) len text are good = shows_kind (kind.Char b) len (and_parts (is_byte b) true are).0
one_byte_is (b ∷ c ∷ bs) len text are good = good

character_is : (s : Option (List ℕ × ℕ)) (text : List ℕ) → IsGoodString s → Shows front_of (word_front text)
    → Shows front_of (character_or s (word_front text))
character_is None text good others = others
character_is (Some s) text good others = one_byte_is s.0 (s.1 + 1) text good others

pub character_good : (text : List ℕ) → AreBytes text → Shows front_of (word_front text)
    → Shows front_of (character_front text)
unfolding character_front
character_good text are word =
    character_is (quoted (drop 1 text)) text (quoted_good (drop 1 text) (dropped 1 text are)) word
