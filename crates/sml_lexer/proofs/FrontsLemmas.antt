-- What stands at the front of a text takes at least one byte of it, and no more than there are.
use Rattle.std.proofs.Common.{◌≡◌, ℕ, zero, suc, ◌+◌, ◌-◌, ◌<◌, ◌≤◌, Bool, true, false, ◌==◌, ◌&&◌, nat_lt, List, [], ◌∷◌, length, length-drop, get_or, get_or-drop, take, drop, Option, Some, None, IfSome, refl, ap, ◌∙◌, arith, inl, inr, add-zero, if◌then◌else◌}
use Rattle.std.proofs.lemmas.Bool.{and_parts, cases_Bool, ltb-true}
use Rattle.std.proofs.lemmas.Bool.Decides.{nat_tests}
use Rattle.std.proofs.lemmas.List.{length-take-le}
use Rattle.std.proofs.lemmas.List.Sums.{prefix_len-le-length, sum_by-cons}
use Rattle.std.specs.List.{prefix_len, sum_by, list_all}
use Rattle.std.specs.Str.Parse.{digits_value}
use Rattle.sml_lexer.specs.declared.front.Front.{Front}
use Rattle.sml_lexer.specs.declared.quoted.Item.{Item}
use Rattle.sml_lexer.specs.Classes.{first, is_letter, is_digit, is_hex_digit, is_blank, is_name_byte, is_symbol_byte}
use Rattle.sml_lexer.specs.Names.{is_reserved, word_len, identifier_len, qualifier_len, parts_after, name_parts, is_short, name_front, word_front, type_variable_front, is_single_mark, mark_len}
use Rattle.sml_lexer.specs.Numbers.{sign_len, begins_number, begins_hex, in_range, integer, hex_front, decimal_front, is_left_out, unsigned_front, number_front}
use Rattle.sml_lexer.specs.Quoted.{item, item_bytes, longer, item_and_rest, items_after, quoted, string_lexeme, string_front, one_byte, character_lexeme, character_or, begins_character, character_front}
use Rattle.sml_lexer.specs.Gaps.{opens, closes, further, after_close, comment_rest, begins_comment, comment_gap, comment_front}
use Rattle.sml_lexer.specs.Fronts.{mark_front, front, Takes, TakesWithin}
use Rattle.sml_lexer.proofs.BytesLemmas.{within_class, run_begins, blank_begins, name_begins}
use Rattle.sml_lexer.proofs.NumbersLemmas.{hex_has_prefix, within-takes}
use Rattle.sml_lexer.proofs.GapsLemmas.{comment_has_opening}

-- comments
further-within : (n : ℕ) (s : Option ℕ) (m all : ℕ) → IfSome s (λ k. k ≤ m) → n + m ≤ all → IfSome (further n s) (λ k. k ≤ all)
further-within n None m all h fits = tt
further-within n (Some k) m all h fits = omega arith

closed-within : (depth : ℕ) (rest : ℕ → Option ℕ) (m all : ℕ) → ((d : ℕ) → IfSome (rest d) (λ k. k ≤ m)) → 2 + m ≤ all
    → IfSome (after_close depth rest) (λ k. k ≤ all)
closed-within zero rest m all h fits = omega arith
closed-within (suc depth) rest m all h fits = further-within 2 (rest depth) m all (h depth) fits

comment_rest-within : (depth : ℕ) (text : List ℕ) → IfSome (comment_rest depth text) (λ k. k ≤ length text)
comment_rest-within depth [] = tt
comment_rest-within depth (a ∷ []) = tt
comment_rest-within depth (a ∷ (b ∷ bs)) =
    let all : ℕ = length (a ∷ (b ∷ bs)) in
    elim (cases_Bool (opens a b)) [
      | inl e ↦ rw e (further-within 2 (comment_rest (suc depth) bs) (length bs) all (comment_rest-within (suc depth) bs) (omega arith))
      | inr e ↦ elim (cases_Bool (closes a b)) [
        | inl f ↦ rw (e, f) (closed-within depth (λ outer. comment_rest outer bs) (length bs) all (λ d. comment_rest-within d bs) (omega arith))
        | inr f ↦ rw (e, f) (further-within 1 (comment_rest depth (b ∷ bs)) (length (b ∷ bs)) all (comment_rest-within depth (b ∷ bs)) (omega arith))
      ]
    ]

gap-within : (s : Option ℕ) (m all : ℕ) → IfSome s (λ k. k ≤ m) → 2 + m ≤ all → TakesWithin (comment_gap s) all
gap-within None m all h fits = tt
gap-within (Some k) m all h fits = (omega arith, omega arith)

comment-within : (text : List ℕ) → begins_comment text ≡ true → TakesWithin (comment_front text) (length text)
unfolding comment_front
comment-within text h =
    let two : 2 ≤ length text = comment_has_opening text h in
    gap-within (comment_rest 0 (drop 2 text)) (length (drop 2 text)) (length text) (comment_rest-within 0 (drop 2 text)) (omega (arith, length-drop 2 text))

-- numbers
integer-takes : (negative : Bool) (n : ℕ) (label : Bool) (len : ℕ) → Takes (integer negative n label len) len
unfolding integer
integer-takes negative n label len = elim (cases_Bool (in_range negative n)) [ inl e ↦ rw e refl | inr e ↦ rw e tt ]

hex-within : (sign : ℕ) (digits : List ℕ) → TakesWithin (hex_front sign digits) (sign + 2 + length digits)
unfolding hex_front
hex-within sign digits =
    let n = prefix_len is_hex_digit digits in
    within-takes _ (sign + 2 + n) _ (integer-takes (sign == 1) (digits_value 16 (take n digits)) false (sign + 2 + n))
    (omega arith) (omega (arith, prefix_len-le-length is_hex_digit digits))

decimal-within : (sign : ℕ) (digits : List ℕ) → is_digit (first digits) ≡ true → TakesWithin (decimal_front sign digits) (sign + length digits)
unfolding decimal_front
decimal-within sign digits h =
    let n = prefix_len is_digit digits in
    within-takes _ (sign + n) _ (integer-takes _ (digits_value 10 (take n digits)) _ (sign + n))
    (omega (arith, run_begins is_digit digits refl h)) (omega (arith, prefix_len-le-length is_digit digits))

unsigned-within : (sign : ℕ) (digits : List ℕ) → is_digit (first digits) ≡ true → TakesWithin (unsigned_front sign digits) (sign + length digits)
unfolding unsigned_front
unsigned-within sign digits h =
    elim (cases_Bool (begins_hex digits)) [
      | inl e ↦
          let two : 2 ≤ length digits = hex_has_prefix digits e in
          let whole : sign + 2 + length (drop 2 digits) ≡ sign + length digits = omega (arith, length-drop 2 digits) in
          let hex : TakesWithin (hex_front sign (drop 2 digits)) (sign + length digits) = rw whole at (hex-within sign (drop 2 digits)) in
          rw e hex
      | inr e ↦ elim (cases_Bool (is_left_out sign digits)) [ inl f ↦ rw (e, f) tt | inr f ↦ rw (e, f) (decimal-within sign digits h) ]
    ]

number-within : (text : List ℕ) → begins_number text ≡ true → TakesWithin (number_front text) (length text)
unfolding number_front
number-within text h =
    let sign = sign_len text in
    let inside : sign < length text = within_class is_digit text sign refl h in
    let same : get_or (drop sign text) 0 0 ≡ get_or text sign 0 = rw (get_or-drop sign text 0 0, add-zero) refl in
    let digit : is_digit (first (drop sign text)) ≡ true = ap is_digit same ∙ h in
    let whole : sign + length (drop sign text) ≡ length text = omega (arith, length-drop sign text) in
    rw whole at (unsigned-within sign (drop sign text) digit)

-- strings and characters
longer-within : (bytes : List ℕ) (len m all : ℕ) (s : Option (List ℕ × ℕ)) → IfSome s (λ t. t.1 ≤ m) → len + m ≤ all
    → IfSome (longer bytes len s) (λ t. t.1 ≤ all)
longer-within bytes len m all None h fits = tt
longer-within bytes len m all (Some t) h fits = omega arith

item-within : (found : Option Item) (b m : ℕ) (rest : ℕ → Option (List ℕ × ℕ)) → ((k : ℕ) → IfSome (rest k) (λ t. t.1 ≤ m))
    → IfSome (item_and_rest found b rest) (λ t. t.1 ≤ 1 + m)
item-within None b m rest h = elim (cases_Bool (b == 34)) [ inl e ↦ rw e (omega arith) | inr e ↦ rw e tt ]
item-within (Some i) b m rest h = longer-within (item_bytes i.byte) 1 m (1 + m) (rest (i.len - 1)) (h (i.len - 1)) (omega arith)

items-within : (passed : ℕ) (text : List ℕ) → IfSome (items_after passed text) (λ t. t.1 ≤ length text)
items-within passed [] = tt
items-within (suc passed) (b ∷ bs) = longer-within [] 1 (length bs) (length (b ∷ bs)) (items_after passed bs) (items-within passed bs) (omega arith)
items-within zero (b ∷ bs) =
    let more : 1 + length bs ≡ length (b ∷ bs) = omega arith in
    let within = item-within (item (b ∷ bs)) b (length bs) (λ passed. items_after passed bs) (λ k. items-within k bs) in
    rw more at within

-- a string of at least one byte, and no more than there are
abbrev IsQuotedIn : Option (List ℕ × ℕ) → ℕ → Type 0
IsQuotedIn s all = IfSome s (λ t. (1 ≤ t.1) × (t.1 ≤ all))

after_quote : (s : Option (List ℕ × ℕ)) (m all : ℕ) → IfSome s (λ t. t.1 ≤ m) → 1 + m ≤ all → IsQuotedIn (longer [] 1 s) all
after_quote None m all h fits = tt
after_quote (Some t) m all h fits = (omega arith, omega arith)

quoted-within : (text : List ℕ) → 1 ≤ length text → IsQuotedIn (quoted text) (length text)
unfolding quoted
quoted-within text some =
    after_quote (items_after 0 (drop 1 text)) (length (drop 1 text)) (length text) (items-within 0 (drop 1 text)) (omega (arith, length-drop 1 text))

string_lexeme-within : (s : Option (List ℕ × ℕ)) (all : ℕ) → IsQuotedIn s all → TakesWithin (string_lexeme s) all
string_lexeme-within None all h = tt
string_lexeme-within (Some t) all h = h

string-within : (text : List ℕ) → 1 ≤ length text → TakesWithin (string_front text) (length text)
unfolding string_front
string-within text some = string_lexeme-within (quoted text) (length text) (quoted-within text some)

lexeme_or-within : (b : Option ℕ) (len all : ℕ) (other : Front) → 1 ≤ len → len ≤ all → TakesWithin other all
    → TakesWithin (character_lexeme b len other) all
lexeme_or-within None len all other some fits h = h
lexeme_or-within (Some b) len all other some fits h = (some, fits)

character_or-within : (s : Option (List ℕ × ℕ)) (m all : ℕ) (other : Front) → IsQuotedIn s m → 1 + m ≤ all → TakesWithin other all
    → TakesWithin (character_or s other) all
character_or-within None m all other h fits also = also
character_or-within (Some t) m all other h fits also = lexeme_or-within (one_byte t.0) (t.1 + 1) all other (omega arith) (omega (arith, h.1)) also

-- words
word_len-within : (text : List ℕ) → word_len text ≤ length text
word_len-within text =
    elim (cases_Bool (is_letter (first text))) [
      | inl e ↦ rw e (prefix_len-le-length is_name_byte text)
      | inr e ↦ rw e (prefix_len-le-length is_symbol_byte text)
    ]

pub identifier_len-within : (text : List ℕ) → identifier_len text ≤ length text
identifier_len-within text =
    elim (cases_Bool (is_reserved (take (word_len text) text))) [
      | inl e ↦ rw e (omega arith)
      | inr e ↦ rw e (word_len-within text)
    ]

-- a structure name and its dot lie inside the text, and the name has at least one byte
pub qualifier_len-within : (text : List ℕ) → 0 < qualifier_len text → (2 ≤ qualifier_len text) × (qualifier_len text ≤ length text)
unfolding qualifier_len
qualifier_len-within text h =
    let n = identifier_len text in
    let joined : Bool = get_or text n 0 == 46 && nat_lt 0 (identifier_len (drop (n + 1) text)) in
    let dotted : Bool = nat_lt 0 n && joined in
    elim (cases_Bool (is_letter (first text) && dotted)) [
      | inl e ↦
          let parts : dotted ≡ true = (and_parts (is_letter (first text)) dotted e).1 in
          let some : nat_lt 0 n ≡ true = (and_parts (nat_lt 0 n) joined parts).0 in
          let dot : (get_or text n 0 == 46) ≡ true =
          (and_parts (get_or text n 0 == 46) (nat_lt 0 (identifier_len (drop (n + 1) text))) (and_parts (nat_lt 0 n) joined parts).1).0 in
          let inside : n < length text = within_class (λ c. c == 46) text n refl dot in
          let one : 0 < n = ltb-true 0 n some in
          rw e (omega arith, omega arith)
      | inr e ↦ let none : qualifier_len text ≡ 0 = rw e refl in absurd (omega arith)
    ]

-- the bytes of parts, each with a dot after it
abbrev dotted_len : List (List ℕ) → ℕ
dotted_len parts = sum_by (λ part. length part + 1) parts

parts_qualified : (b : ℕ) (bs : List ℕ) → nat_lt 0 (qualifier_len (b ∷ bs)) ≡ true
    → dotted_len (parts_after 0 (b ∷ bs))
    ≡ (length (take (qualifier_len (b ∷ bs) - 1) (b ∷ bs)) + 1) + dotted_len (parts_after (qualifier_len (b ∷ bs) - 1) bs)
parts_qualified b bs e =
    let step : parts_after 0 (b ∷ bs) ≡ take (qualifier_len (b ∷ bs) - 1) (b ∷ bs) ∷ parts_after (qualifier_len (b ∷ bs) - 1) bs = rw e refl in
    ap dotted_len step ∙ sum_by-cons (λ part. length part + 1) (take (qualifier_len (b ∷ bs) - 1) (b ∷ bs)) (parts_after (qualifier_len (b ∷ bs) - 1) bs)

parts_alone : (b : ℕ) (bs : List ℕ) → nat_lt 0 (qualifier_len (b ∷ bs)) ≡ false
    → dotted_len (parts_after 0 (b ∷ bs)) ≡ identifier_len (b ∷ bs) + 1
parts_alone b bs e =
    let step : parts_after 0 (b ∷ bs) ≡ take (identifier_len (b ∷ bs)) (b ∷ bs) ∷ [] = rw e refl in
    let last : length (take (identifier_len (b ∷ bs)) (b ∷ bs)) ≡ identifier_len (b ∷ bs) =
    length-take-le (identifier_len (b ∷ bs)) (b ∷ bs) (identifier_len-within (b ∷ bs)) in
    ap dotted_len step ∙ omega arith

parts-within : (passed : ℕ) (text : List ℕ) → passed ≤ length text → passed + dotted_len (parts_after passed text) ≤ length text + 1
parts-within passed [] h = omega arith
parts-within (suc passed) (b ∷ bs) h = omega (arith, parts-within passed bs (omega arith))
parts-within zero (b ∷ bs) h =
    let n = qualifier_len (b ∷ bs) in
    elim (cases_Bool (nat_lt 0 n)) [
      | inl e ↦
          let (two, fits) = qualifier_len-within (b ∷ bs) (ltb-true 0 n e) in
          let more = parts-within (n - 1) bs (omega arith) in
          let name : length (take (n - 1) (b ∷ bs)) ≡ n - 1 = length-take-le (n - 1) (b ∷ bs) (omega arith) in
          omega (arith, parts_qualified b bs e)
      | inr e ↦ omega (arith, parts_alone b bs e, identifier_len-within (b ∷ bs))
    ]

parts-some : (text : List ℕ) → 0 < identifier_len text → 1 ≤ length text → 2 ≤ dotted_len (parts_after 0 text)
parts-some [] h some = absurd (omega arith)
parts-some (b ∷ bs) h some =
    let n = qualifier_len (b ∷ bs) in
    elim (cases_Bool (nat_lt 0 n)) [
      | inl e ↦
          let (two, fits) = qualifier_len-within (b ∷ bs) (ltb-true 0 n e) in
          let name : length (take (n - 1) (b ∷ bs)) ≡ n - 1 = length-take-le (n - 1) (b ∷ bs) (omega arith) in
          omega (arith, parts_qualified b bs e)
      | inr e ↦ omega (arith, parts_alone b bs e)
    ]

name-within : (text : List ℕ) → 0 < identifier_len text → 1 ≤ length text → TakesWithin (name_front text) (length text)
unfolding name_front name_parts
name-within text h some =
    let least = parts-some text h some in
    let most = parts-within 0 text (omega arith) in
    elim (cases_Bool (list_all is_short (parts_after 0 text))) [ inl e ↦ rw e (omega arith, omega arith) | inr e ↦ rw e tt ]

word-within : (text : List ℕ) → 0 < word_len text → TakesWithin (word_front text) (length text)
unfolding word_front
word-within text h =
    let within = word_len-within text in
    elim (cases_Bool (is_reserved (take (word_len text) text))) [
      | inl e ↦ rw e (omega arith, within)
      | inr e ↦ let same : identifier_len text ≡ word_len text = rw e refl in
          rw e (name-within text (omega arith) (omega arith))
    ]

type_variable-within : (text : List ℕ) → first text ≡ 39 → TakesWithin (type_variable_front text) (length text)
unfolding type_variable_front
type_variable-within text h =
    let n = prefix_len is_name_byte text in
    let within = prefix_len-le-length is_name_byte text in
    let some = name_begins text h in
    let len : length (take n text) ≡ n = length-take-le n text within in
    elim (cases_Bool (is_short (take n text))) [ inl e ↦ rw e (omega arith, omega arith) | inr e ↦ rw e tt ]

-- the mark of a character is a word by itself
pub character_has_word : (text : List ℕ) → begins_character text ≡ true → 0 < word_len text
character_has_word text h =
    let hash : (first text == 35) ≡ true = (and_parts (first text == 35) (get_or text 1 0 == 34) h).0 in
    let byte : first text ≡ 35 = grind (arith, nat_tests) in
    let letter : is_letter (first text) ≡ false = ap is_letter byte in
    let symbol : is_symbol_byte (first text) ≡ true = ap is_symbol_byte byte in
    rw letter (run_begins is_symbol_byte text refl symbol)

character-within : (text : List ℕ) → begins_character text ≡ true → TakesWithin (character_front text) (length text)
unfolding character_front
character-within text h =
    let quote : (get_or text 1 0 == 34) ≡ true = (and_parts (first text == 35) (get_or text 1 0 == 34) h).1 in
    let two : 1 < length text = within_class (λ c. c == 34) text 1 refl quote in
    let some : 0 < word_len text = character_has_word text h in
    let len : length (drop 1 text) ≡ length text - 1 = length-drop 1 text in
    character_or-within (quoted (drop 1 text)) (length (drop 1 text)) (length text) (word_front text)
    (quoted-within (drop 1 text) (omega arith)) (omega arith) (word-within text some)

-- marks
three_dots : (text : List ℕ) → (first text == 46 && (get_or text 1 0 == 46 && get_or text 2 0 == 46)) ≡ true → 3 ≤ length text
three_dots text h =
    let last = (and_parts (get_or text 1 0 == 46) (get_or text 2 0 == 46) (and_parts (first text == 46) _ h).1).1 in
    let inside : 2 < length text = within_class (λ c. c == 46) text 2 refl last in omega arith

mark_len-within : (text : List ℕ) → 1 ≤ length text → mark_len text ≤ length text
unfolding mark_len
mark_len-within text some =
    elim (cases_Bool (is_single_mark (first text))) [
      | inl e ↦ rw e some
      | inr e ↦ elim (cases_Bool (first text == 46 && (get_or text 1 0 == 46 && get_or text 2 0 == 46))) [
        | inl f ↦ rw (e, f) (three_dots text f)
        | inr f ↦ rw (e, f) (omega arith)
      ]
    ]

mark-within : (text : List ℕ) → 1 ≤ length text → TakesWithin (mark_front text) (length text)
unfolding mark_front
mark-within text some =
    elim (cases_Bool (nat_lt 0 (mark_len text))) [
      | inl e ↦ let one : 0 < mark_len text = ltb-true 0 (mark_len text) e in rw e (omega arith, mark_len-within text some)
      | inr e ↦ rw e tt
    ]

-- what begins with no separator, comment, number or string
others-within : (text : List ℕ) → 1 ≤ length text
    → TakesWithin (if begins_character text then character_front text
    else if first text == 39 then type_variable_front text
    else if nat_lt 0 (word_len text) then word_front text
    else mark_front text) (length text)
others-within text some =
    elim (cases_Bool (begins_character text)) [
      | inl a ↦ rw a (character-within text a)
      | inr a ↦ elim (cases_Bool (first text == 39)) [
        | inl b ↦ let prime : first text ≡ 39 = grind (arith, nat_tests) in rw (a, b) (type_variable-within text prime)
        | inr b ↦ elim (cases_Bool (nat_lt 0 (word_len text))) [
          | inl c ↦ rw (a, b, c) (word-within text (ltb-true 0 (word_len text) c))
          | inr c ↦ rw (a, b, c) (mark-within text some)
        ]
      ]
    ]

pub front-within : (text : List ℕ) → 1 ≤ length text → TakesWithin (front text) (length text)
unfolding front
front-within text some =
    elim (cases_Bool (is_blank (first text))) [
      | inl a ↦ rw a (blank_begins text a, prefix_len-le-length is_blank text)
      | inr a ↦ elim (cases_Bool (begins_comment text)) [
        | inl b ↦ rw (a, b) (comment-within text b)
        | inr b ↦ elim (cases_Bool (begins_number text)) [
          | inl c ↦ rw (a, b, c) (number-within text c)
          | inr c ↦ elim (cases_Bool (first text == 34)) [
            | inl d ↦ rw (a, b, c, d) (string-within text some)
            | inr d ↦ rw (a, b, c, d) (others-within text some)
          ]
        ]
      ]
    ]
