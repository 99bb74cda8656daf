-- What a word's piece spells.
use Rattle.std.proofs.Common.{◌≡◌, ℕ, zero, suc, ◌+◌, ◌-◌, ◌<◌, ◌≤◌, Bool, true, ◌==◌, ◌&&◌, nat_lt, if◌then◌else◌, List, [], ◌∷◌, ◌++◌, length, length-append, get_or, take, drop, take_at, Option, Some, None, refl, sym, ap, ◌∙◌, arith, inl, inr, append_assoc, subst}
use Rattle.std.specs.Prelude.{⊤}
use Rattle.std.proofs.lemmas.Bool.{and_parts, cases_Bool, ltb-true}
use Rattle.std.proofs.lemmas.Bool.Decides.{nat_tests}
use Rattle.std.proofs.lemmas.List.{length-take-le, take-append-drop, drop_more}
use Rattle.std.proofs.lemmas.List.Sums.{prefix_len-le-length, sum_by-cons}
use Rattle.std.proofs.lemmas.List.Elements.{All-nil, All-cons}
use Rattle.std.specs.List.{prefix_len, sum_by, list_all, join_with_byte}
use Rattle.sml_lexer.specs.declared.front.Front.{Front}
use Rattle.sml_lexer.specs.declared.front.Front.TheVariants.{Gap, Lexeme, Refused}
use Rattle.sml_lexer.specs.declared.lexeme.LexemeKind.{LexemeKind}
use Rattle.sml_lexer.specs.Classes.{first, is_letter, is_blank, is_name_byte}
use Rattle.sml_lexer.specs.Names.{is_reserved, word_len, identifier_len, qualifier_len, parts_after, name_parts, joined_len, is_short, name_front, word_front, type_variable_front, mark_len}
use Rattle.sml_lexer.specs.Numbers.{sign_len, begins_number, begins_hex, in_range, integer, hex_front, decimal_front, is_left_out, unsigned_front, number_front}
use Rattle.sml_lexer.specs.Quoted.{quoted, string_lexeme, string_front, one_byte, character_lexeme, character_or, begins_character, character_front}
use Rattle.sml_lexer.specs.Gaps.{comment_rest, begins_comment, comment_gap, comment_front}
use Rattle.sml_lexer.specs.Fronts.{mark_front, front}
use Rattle.sml_lexer.specs.Cuttings.{IsSpelledBy, PieceSpells, PiecesSpell, front_of}
use Rattle.sml_lexer.proofs.NamesLemmas.{parts_after-drop, identifier-after_qualifier, no_identifier}
use Rattle.sml_lexer.proofs.FrontsLemmas.{qualifier_len-within, character_has_word}

-- a lexeme at the front of a text spells what its bytes are
abbrev pub SpelledAt : Front → List ℕ → Type 0
SpelledAt (Gap len) text = ⊤
SpelledAt (Lexeme k len) text = IsSpelledBy k (take len text)
SpelledAt (Refused number) text = ⊤

-- parts joined by dots, the first of them set apart
join-cons : (part : List ℕ) (parts : List (List ℕ)) → 1 ≤ length parts → join_with_byte 46 (part ∷ parts) ≡ part ++ (46 ∷ join_with_byte 46 parts)
join-cons part [] h = absurd (omega arith)
join-cons part (p ∷ ps) h = refl

length-join : (part : List ℕ) (parts : List (List ℕ)) → length (join_with_byte 46 (part ∷ parts)) + 1 ≡ sum_by (λ p. length p + 1) (part ∷ parts)
length-join part [] = omega arith
length-join part (p ∷ ps) =
    omega (arith, length-append part (46 ∷ join_with_byte 46 (p ∷ ps)), length-join p ps, sum_by-cons (λ q. length q + 1) part (p ∷ ps))

joined_len-is : (parts : List (List ℕ)) → 1 ≤ length parts → joined_len parts ≡ length (join_with_byte 46 parts)
joined_len-is [] h = absurd (omega arith)
joined_len-is (p ∷ ps) h = omega (arith, length-join p ps)

-- where an identifier stands there is a part
some_parts : (text : List ℕ) → 0 < identifier_len text → 1 ≤ length (parts_after 0 text)
some_parts [] h = absurd (omega (arith, no_identifier))
some_parts (b ∷ bs) h = elim (cases_Bool (nat_lt 0 (qualifier_len (b ∷ bs)))) [ inl e ↦ rw e (omega arith) | inr e ↦ rw e (omega arith) ]

-- the dot of a structure name
dot_of : (text : List ℕ) → 0 < qualifier_len text → get_or text (qualifier_len text - 1) 0 ≡ 46
unfolding qualifier_len
dot_of text h =
    let n = identifier_len text in
    let joined : Bool = get_or text n 0 == 46 && nat_lt 0 (identifier_len (drop (n + 1) text)) in
    let dotted : Bool = nat_lt 0 n && joined in
    elim (cases_Bool (is_letter (first text) && dotted)) [
      | inl e ↦
          let parts : dotted ≡ true = (and_parts (is_letter (first text)) dotted e).1 in
          let dot : (get_or text n 0 == 46) ≡ true =
          (and_parts (get_or text n 0 == 46) (nat_lt 0 (identifier_len (drop (n + 1) text))) (and_parts (nat_lt 0 n) joined parts).1).0 in
          let back : n + 1 - 1 ≡ n = omega arith in
          let is : get_or text n 0 ≡ 46 = grind (arith, nat_tests) in
          rw (e, back) is
      | inr e ↦ let none : qualifier_len text ≡ 0 = rw e refl in absurd (omega arith)
    ]

-- the parts of a long identifier, joined by dots, begin the text
pub parts-spell : (passed : ℕ) (text : List ℕ) → (rest : List ℕ) × (drop passed text ≡ join_with_byte 46 (parts_after passed text) ++ rest)
parts-spell zero [] = ([], refl)
parts-spell (suc passed) [] = ([], refl)
parts-spell (suc passed) (b ∷ bs) = parts-spell passed bs
parts-spell zero (b ∷ bs) =
    let n = qualifier_len (b ∷ bs) in
    let last = identifier_len (b ∷ bs) in
    elim (cases_Bool (nat_lt 0 n)) [
      | inl e ↦
          let some : 0 < n = ltb-true 0 n e in
          let (two, fits) = qualifier_len-within (b ∷ bs) some in
          let (rest, more) = parts-spell (n - 1) bs in
          let next : suc (n - 1) ≡ n = omega arith in
          let step : parts_after 0 (b ∷ bs) ≡ take (n - 1) (b ∷ bs) ∷ parts_after (n - 1) bs = rw e refl in
          let same : parts_after (n - 1) bs ≡ parts_after 0 (drop n (b ∷ bs)) =
          parts_after-drop (n - 1) bs ∙ ap (λ (k : ℕ). parts_after 0 (drop k (b ∷ bs))) next in
          let follows : 1 ≤ length (parts_after (n - 1) bs) = rw same (some_parts (drop n (b ∷ bs)) (identifier-after_qualifier (b ∷ bs) some)) in
          let joined : join_with_byte 46 (parts_after 0 (b ∷ bs)) ≡ take (n - 1) (b ∷ bs) ++ (46 ∷ join_with_byte 46 (parts_after (n - 1) bs)) =
          ap (join_with_byte 46) step ∙ join-cons (take (n - 1) (b ∷ bs)) (parts_after (n - 1) bs) follows in
          let past : n - 1 + 1 ≡ suc (n - 1) = omega arith in
          let at_dot : drop (n - 1) (b ∷ bs) ≡ get_or (b ∷ bs) (n - 1) 0 ∷ drop (n - 1) bs =
          drop_more (b ∷ bs) (n - 1) 0 (omega arith) ∙ ap (λ (k : ℕ). get_or (b ∷ bs) (n - 1) 0 ∷ drop k (b ∷ bs)) past in
          let dot : drop (n - 1) (b ∷ bs) ≡ 46 ∷ (join_with_byte 46 (parts_after (n - 1) bs) ++ rest) =
          at_dot ∙ rw (dot_of (b ∷ bs) some) (ap (λ (xs : List ℕ). 46 ∷ xs) more) in
          let whole : b ∷ bs ≡ join_with_byte 46 (parts_after 0 (b ∷ bs)) ++ rest =
          sym (take-append-drop (n - 1) (b ∷ bs)) ∙ ap (λ (xs : List ℕ). take (n - 1) (b ∷ bs) ++ xs) dot
          ∙ sym (append_assoc (take (n - 1) (b ∷ bs)) (46 ∷ join_with_byte 46 (parts_after (n - 1) bs)) rest)
          ∙ ap (λ (xs : List ℕ). xs ++ rest) (sym joined) in
          (rest, whole)
      | inr e ↦
          let step : parts_after 0 (b ∷ bs) ≡ take last (b ∷ bs) ∷ [] = rw e refl in
          let whole : b ∷ bs ≡ join_with_byte 46 (parts_after 0 (b ∷ bs)) ++ drop last (b ∷ bs) =
          sym (take-append-drop last (b ∷ bs)) ∙ ap (λ (xs : List ℕ). xs ++ drop last (b ∷ bs)) (ap (join_with_byte 46) (sym step)) in
          (drop last (b ∷ bs), whole)
    ]

name-spelled : (text : List ℕ) → 0 < identifier_len text → SpelledAt (name_front text) text
unfolding name_front name_parts
name-spelled text h =
    let (rest, whole) = parts-spell 0 text in
    let parts = parts_after 0 text in
    let len : joined_len parts ≡ length (join_with_byte 46 parts) = joined_len-is parts (some_parts text h) in
    let spelled : take (joined_len parts) text ≡ join_with_byte 46 parts =
    ap (λ (k : ℕ). take k text) len ∙ ap (take (length (join_with_byte 46 parts))) whole ∙ take_at (join_with_byte 46 parts) rest _ refl in
    elim (cases_Bool (list_all is_short parts)) [ inl e ↦ rw e spelled | inr e ↦ rw e tt ]

word-spelled : (text : List ℕ) → 0 < word_len text → SpelledAt (word_front text) text
unfolding word_front
word-spelled text h =
    elim (cases_Bool (is_reserved (take (word_len text) text))) [
      | inl e ↦ rw e refl
      | inr e ↦ let same : identifier_len text ≡ word_len text = rw e refl in rw e (name-spelled text (omega arith))
    ]

type_variable-spelled : (text : List ℕ) → SpelledAt (type_variable_front text) text
unfolding type_variable_front
type_variable-spelled text =
    let n = prefix_len is_name_byte text in
    let len : length (take n text) ≡ n = length-take-le n text (prefix_len-le-length is_name_byte text) in
    elim (cases_Bool (is_short (take n text))) [ inl e ↦ rw (e, len) refl | inr e ↦ rw e tt ]

integer-spelled : (negative : Bool) (n : ℕ) (label : Bool) (len : ℕ) (text : List ℕ) → SpelledAt (integer negative n label len) text
unfolding integer
integer-spelled negative n label len text = elim (cases_Bool (in_range negative n)) [ inl e ↦ rw e tt | inr e ↦ rw e tt ]

unsigned-spelled : (sign : ℕ) (digits text : List ℕ) → SpelledAt (unsigned_front sign digits) text
unfolding unsigned_front hex_front decimal_front
unsigned-spelled sign digits text =
    elim (cases_Bool (begins_hex digits)) [
      | inl e ↦ rw e (integer-spelled _ _ _ _ text)
      | inr e ↦ elim (cases_Bool (is_left_out sign digits)) [ inl f ↦ rw (e, f) tt | inr f ↦ rw (e, f) (integer-spelled _ _ _ _ text) ]
    ]

number-spelled : (text : List ℕ) → SpelledAt (number_front text) text
unfolding number_front
number-spelled text = unsigned-spelled (sign_len text) (drop (sign_len text) text) text

comment-spelled : (s : Option ℕ) (text : List ℕ) → SpelledAt (comment_gap s) text
comment-spelled None text = tt
comment-spelled (Some n) text = tt

string-spelled : (s : Option (List ℕ × ℕ)) (text : List ℕ) → SpelledAt (string_lexeme s) text
string-spelled None text = tt
string-spelled (Some s) text = tt

lexeme_or-spelled : (b : Option ℕ) (len : ℕ) (other : Front) (text : List ℕ) → SpelledAt other text → SpelledAt (character_lexeme b len other) text
lexeme_or-spelled None len other text h = h
lexeme_or-spelled (Some b) len other text h = tt

character_or-spelled : (s : Option (List ℕ × ℕ)) (other : Front) (text : List ℕ) → SpelledAt other text → SpelledAt (character_or s other) text
character_or-spelled None other text h = h
character_or-spelled (Some s) other text h = lexeme_or-spelled (one_byte s.0) (s.1 + 1) other text h

mark-spelled : (text : List ℕ) → SpelledAt (mark_front text) text
unfolding mark_front
mark-spelled text = elim (cases_Bool (nat_lt 0 (mark_len text))) [ inl e ↦ rw e refl | inr e ↦ rw e tt ]

character-spelled : (text : List ℕ) → begins_character text ≡ true → SpelledAt (character_front text) text
unfolding character_front
character-spelled text h = character_or-spelled (quoted (drop 1 text)) (word_front text) text (word-spelled text (character_has_word text h))

others-spelled : (text : List ℕ)
    → SpelledAt (if begins_character text then character_front text
    else if first text == 39 then type_variable_front text
    else if nat_lt 0 (word_len text) then word_front text
    else mark_front text) text
others-spelled text =
    elim (cases_Bool (begins_character text)) [
      | inl a ↦ rw a (character-spelled text a)
      | inr a ↦ elim (cases_Bool (first text == 39)) [
        | inl b ↦ rw (a, b) (type_variable-spelled text)
        | inr b ↦ elim (cases_Bool (nat_lt 0 (word_len text))) [
          | inl c ↦ rw (a, b, c) (word-spelled text (ltb-true 0 (word_len text) c))
          | inr c ↦ rw (a, b, c) (mark-spelled text)
        ]
      ]
    ]

pub front-spelled : (text : List ℕ) → SpelledAt (front text) text
unfolding front comment_front string_front
front-spelled text =
    elim (cases_Bool (is_blank (first text))) [
      | inl a ↦ rw a tt
      | inr a ↦ elim (cases_Bool (begins_comment text)) [
        | inl b ↦ rw (a, b) (comment-spelled (comment_rest 0 (drop 2 text)) text)
        | inr b ↦ elim (cases_Bool (begins_number text)) [
          | inl c ↦ rw (a, b, c) (number-spelled text)
          | inr c ↦ elim (cases_Bool (first text == 34)) [
            | inl d ↦ rw (a, b, c, d) (string-spelled (quoted text) text)
            | inr d ↦ rw (a, b, c, d) (others-spelled text)
          ]
        ]
      ]
    ]

-- a piece that is what stands at the front spells its kind
piece-spelled : (k : Option LexemeKind) (bytes rest text : List ℕ) → text ≡ bytes ++ rest → front text ≡ front_of k (length bytes)
    → SpelledAt (front text) text → PieceSpells k bytes
piece-spelled None bytes rest text split here h = tt
piece-spelled (Some k) bytes rest text split here h =
    let same : take (length bytes) text ≡ bytes = rw split (take_at bytes rest (length bytes) refl) in
    let there : SpelledAt (Lexeme k (length bytes)) text = subst (λ (f : Front). SpelledAt f text) here h in
    subst (λ (bs : List ℕ). IsSpelledBy k bs) same there

pub spelled : PiecesSpell
spelled text [] h = All-nil (λ p. PieceSpells p.kind p.bytes)
spelled text (p ∷ ps) (rest, split, some, here, more) =
    All-cons (λ p. PieceSpells p.kind p.bytes) p ps
    (piece-spelled p.kind p.bytes rest text split here (front-spelled text)) (spelled rest ps more)
