-- Identifiers, type variables, and where reserved words and marks stand (The Definition of Standard ML, sections 2.1,
-- 2.4 and 2.5).
use Rattle.std.specs.Prelude.{ℕ, ◌+◌, ◌-◌, Bool, ◌&&◌, ◌||◌, ◌==◌, nat_lt, nat_le, zero, suc, List, [], ◌∷◌, take, drop, length, slice_index, is_some, if◌then◌else◌}
use Rattle.std.specs.List.{prefix_len, list_all, sum_by}
use Rattle.sml_lexer.specs.declared.lexeme.LexemeKind.TheVariants as kind
use Rattle.sml_lexer.specs.declared.front.Front.{Front}
use Rattle.sml_lexer.specs.declared.front.Front.TheVariants.{Lexeme, Refused}
use Rattle.sml_lexer.specs.Words.{word_of}
use Rattle.sml_lexer.specs.Classes.{first, is_letter, is_name_byte, is_symbol_byte}

-- whether a word is reserved
abbrev pub is_reserved : List ℕ → Bool
is_reserved word = is_some (word_of word)

-- the longest word at the front of a text: a letter and the identifier bytes after it, or a run of symbols
abbrev pub word_len : List ℕ → ℕ
word_len text = if is_letter (first text) then prefix_len is_name_byte text else prefix_len is_symbol_byte text

-- the length of the identifier at the front of a text, or 0 where its longest word is reserved or there is none
abbrev pub identifier_len : List ℕ → ℕ
identifier_len text = if is_reserved (take (word_len text) text) then 0 else word_len text

-- the length of the structure name at the front of a text and the dot after it, where an identifier follows these, or 0
unfoldable pub qualifier_len : List ℕ → ℕ
qualifier_len text =
    let n = identifier_len text in
    if is_letter (first text) && (nat_lt 0 n && (slice_index text n == 46 && nat_lt 0 (identifier_len (drop (n + 1) text))))
    then n + 1 else 0

-- the parts of the long identifier that begins after so many bytes of a text: structure names, each with the dot after
-- it, and the identifier after these
abbrev pub parts_after : ℕ → List ℕ → List (List ℕ)
parts_after passed [] = []
parts_after (suc passed) (b ∷ bs) = parts_after passed bs
parts_after zero (b ∷ bs) =
    if nat_lt 0 (qualifier_len (b ∷ bs))
    then take (qualifier_len (b ∷ bs) - 1) (b ∷ bs) ∷ parts_after (qualifier_len (b ∷ bs) - 1) bs
    else take (identifier_len (b ∷ bs)) (b ∷ bs) ∷ []

-- the parts of the long identifier at the front of a text
unfoldable pub name_parts : List ℕ → List (List ℕ)
name_parts text = parts_after 0 text

-- how many bytes the parts take with a dot between each two
abbrev pub joined_len : List (List ℕ) → ℕ
joined_len parts = sum_by (λ part. length part + 1) parts - 1

-- an identifier has at most 255 bytes
unfoldable pub is_short : List ℕ → Bool
is_short part = nat_le (length part) 255

-- the long identifier at the front of a text, each part of which is short
unfoldable pub name_front : List ℕ → Front
name_front text =
    if list_all is_short (name_parts text) then Lexeme (kind.Name (name_parts text)) (joined_len (name_parts text)) else Refused 12

-- the reserved word or the identifier at the front of a text
unfoldable pub word_front : List ℕ → Front
word_front text =
    if is_reserved (take (word_len text) text) then Lexeme (kind.Reserved (take (word_len text) text)) (word_len text)
    else name_front text

-- the type variable at the front of a text: a prime and the identifier bytes after it
unfoldable pub type_variable_front : List ℕ → Front
type_variable_front text =
    let word = take (prefix_len is_name_byte text) text in
    if is_short word then Lexeme (kind.TyVar word) (length word) else Refused 12

-- the length of the mark at the front of a text that is made of other bytes, or 0
abbrev pub is_single_mark : ℕ → Bool
is_single_mark b = b == 40 || (b == 41 || (b == 91 || (b == 93 || (b == 123 || (b == 125 || (b == 44 || (b == 59 || b == 95)))))))

unfoldable pub mark_len : List ℕ → ℕ
mark_len text =
    if is_single_mark (first text) then 1
    else if first text == 46 && (slice_index text 1 == 46 && slice_index text 2 == 46) then 3
    else 0
