-- Strings and characters, with the bytes that they stand for (The Definition of Standard ML, sections 2.2 and 2.3).
use Rattle.std.specs.Prelude.{ℕ, ◌+◌, ◌-◌, Bool, not, ◌&&◌, ◌||◌, ◌==◌, nat_le, zero, suc, List, [], ◌∷◌, ◌++◌, take, drop, slice_index, Option, Some, None, option_map, if◌then◌else◌}
use Rattle.std.specs.List.{prefix_len}
use Rattle.std.specs.Str.Parse.{digits_value}
use Rattle.sml_lexer.specs.declared.lexeme.LexemeKind.TheVariants as kind
use Rattle.sml_lexer.specs.declared.front.Front.{Front}
use Rattle.sml_lexer.specs.declared.front.Front.TheVariants.{Lexeme, Refused}
use Rattle.sml_lexer.specs.declared.quoted.Item.{Item}
use Rattle.sml_lexer.specs.Classes.{first, is_digit, is_blank}
use Rattle.sml_lexer.specs.Names.{word_front}

-- a byte that stands for itself in a string: a printable one other than `"` and `\`, or one from 128 up
abbrev pub is_plain : ℕ → Bool
is_plain b = ((nat_le 32 b && nat_le b 126) && (not (b == 34) && not (b == 92))) || nat_le 128 b

-- the control byte, or the quote or backslash, that a letter after a backslash stands for
abbrev pub simple_escape : ℕ → Option ℕ
simple_escape c =
    if c == 97 then Some 7
    else if c == 98 then Some 8
    else if c == 116 then Some 9
    else if c == 110 then Some 10
    else if c == 118 then Some 11
    else if c == 102 then Some 12
    else if c == 114 then Some 13
    else if c == 92 then Some 92
    else if c == 34 then Some 34
    else None

-- one item of a string: the byte that it stands for, where there is one, and how many bytes it takes
abbrev pub byte_item : ℕ → ℕ → Item
byte_item b len = record { byte = Some b; len = len }

-- `^` and a byte from 64 to 95 stands for that byte less 64
abbrev pub control_escape : ℕ → Option Item
control_escape c = if nat_le 64 c && nat_le c 95 then Some (byte_item (c - 64) 3) else None

-- three decimal digits stand for their value, up to 255
unfoldable pub decimal_escape : List ℕ → Option Item
decimal_escape text =
    if ((is_digit (slice_index text 1) && is_digit (slice_index text 2)) && is_digit (slice_index text 3))
    && nat_le (digits_value 10 (take 3 (drop 1 text))) 255
    then Some (byte_item (digits_value 10 (take 3 (drop 1 text))) 4) else None

-- separators between two backslashes stand for nothing
unfoldable pub gap_item : List ℕ → Option Item
gap_item text =
    let n = prefix_len is_blank (drop 1 text) in
    if slice_index text (n + 1) == 92 then Some (record { byte = None; len = n + 2 }) else None

-- the escape sequence at the front of a text that begins with a backslash
unfoldable pub escape_item : List ℕ → Option Item
escape_item text =
    let c = slice_index text 1 in
    if c == 94 then control_escape (slice_index text 2)
    else if is_digit c then decimal_escape text
    else if is_blank c then gap_item text
    else option_map (λ b. byte_item b 2) (simple_escape c)

-- the item at the front of a text
unfoldable pub item : List ℕ → Option Item
item text =
    if is_plain (first text) then Some (byte_item (first text) 1)
    else if first text == 92 then escape_item text
    else None

-- the bytes that an item stands for
abbrev pub item_bytes : Option ℕ → List ℕ
item_bytes None = []
item_bytes (Some b) = b ∷ []

-- what a string stands for, and how many bytes it takes, with more before it
abbrev pub longer : List ℕ → ℕ → Option (List ℕ × ℕ) → Option (List ℕ × ℕ)
longer bytes len rest = option_map (λ s. (bytes ++ s.0, len + s.1)) rest

-- an item and what follows it, or the quote that ends a string
abbrev pub item_and_rest : Option Item → ℕ → (ℕ → Option (List ℕ × ℕ)) → Option (List ℕ × ℕ)
item_and_rest None byte rest = if byte == 34 then Some ([], 1) else None
item_and_rest (Some i) byte rest = longer (item_bytes i.byte) 1 (rest (i.len - 1))

-- the items of a string after so many bytes of a text and the quote that ends it: the bytes that they stand for, and
-- how many bytes they take
abbrev pub items_after : ℕ → List ℕ → Option (List ℕ × ℕ)
items_after passed [] = None
items_after (suc passed) (b ∷ bs) = longer [] 1 (items_after passed bs)
items_after zero (b ∷ bs) = item_and_rest (item (b ∷ bs)) b (λ passed. items_after passed bs)

-- the string at the front of a text that begins with a quote
unfoldable pub quoted : List ℕ → Option (List ℕ × ℕ)
quoted text = longer [] 1 (items_after 0 (drop 1 text))

abbrev pub string_lexeme : Option (List ℕ × ℕ) → Front
string_lexeme None = Refused 20
string_lexeme (Some s) = Lexeme (kind.Str s.0) s.1

unfoldable pub string_front : List ℕ → Front
string_front text = string_lexeme (quoted text)

-- a character: the mark `#`, and right after it a string that stands for one byte
abbrev pub one_byte : List ℕ → Option ℕ
one_byte (b ∷ []) = Some b
one_byte _ = None

abbrev pub character_lexeme : Option ℕ → ℕ → Front → Front
character_lexeme None len other = other
character_lexeme (Some b) len other = Lexeme (kind.Char b) len

abbrev pub character_or : Option (List ℕ × ℕ) → Front → Front
character_or None other = other
character_or (Some s) other = character_lexeme (one_byte s.0) (s.1 + 1) other

-- a character: the mark `#`, and right after it a string that stands for one byte
abbrev pub begins_character : List ℕ → Bool
begins_character text = first text == 35 && slice_index text 1 == 34

-- the character at the front of a text that begins with `#` and a quote, or else the mark `#`
unfoldable pub character_front : List ℕ → Front
character_front text = character_or (quoted (drop 1 text)) (word_front text)
