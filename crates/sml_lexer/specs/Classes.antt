-- The classes of bytes that the lexemes of SML are made of (The Definition of Standard ML, sections 2.1 to 2.5).
use Rattle.std.specs.Prelude.{ℕ, Bool, ◌||◌, ◌==◌, List, slice_index}
use Rattle.std.specs.Char.{is_ascii_alphabetic, is_ascii_alphanumeric, is_ascii_digit, is_ascii_hexdigit}

-- the first byte of a text, or 0, which stands in no class
abbrev pub first : List ℕ → ℕ
first text = slice_index text 0

abbrev pub is_letter : ℕ → Bool
is_letter = is_ascii_alphabetic

abbrev pub is_digit : ℕ → Bool
is_digit = is_ascii_digit

abbrev pub is_hex_digit : ℕ → Bool
is_hex_digit = is_ascii_hexdigit

-- a byte of an alphanumeric identifier: a letter, a digit, `_` or `'`
abbrev pub is_name_byte : ℕ → Bool
is_name_byte b = (is_ascii_alphanumeric b || b == 95) || b == 39

-- a byte of a symbolic identifier: ! % & $ # + - / : < = > ? @ \ ~ ` ^ | *
abbrev pub is_symbol_byte : ℕ → Bool
is_symbol_byte b =
    b == 33 || (b == 37 || (b == 38 || (b == 36 || (b == 35 || (b == 43 || (b == 45 || (b == 47 || (b == 58 || (b == 60
    || (b == 61 || (b == 62 || (b == 63 || (b == 64 || (b == 92 || (b == 126 || (b == 96 || (b == 94 || (b == 124 || b == 42))))))))))))))))))

-- a separator: space, tab, line feed, form feed or carriage return
abbrev pub is_blank : ℕ → Bool
is_blank b = (((b == 32 || b == 9) || b == 10) || b == 12) || b == 13
