-- Integer constants, and the word and real constants that this part of SML leaves out (The Definition of Standard ML,
-- section 2.2).
use Rattle.std.specs.Prelude.{ℕ, ◌+◌, ◌^◌, Bool, false, not, ◌&&◌, ◌||◌, ◌==◌, nat_lt, ℤ, pos, List, take, drop, slice_index, if◌then◌else◌}
use Rattle.std.specs.Prelude.{neg_ℤ}
use Rattle.std.specs.List.{prefix_len}
use Rattle.std.specs.Str.Parse.{digits_value}
use Rattle.sml_lexer.specs.declared.lexeme.LexemeKind.TheVariants as kind
use Rattle.sml_lexer.specs.declared.front.Front.{Front}
use Rattle.sml_lexer.specs.declared.front.Front.TheVariants.{Lexeme, Refused}
use Rattle.sml_lexer.specs.Classes.{first, is_digit, is_hex_digit}

-- a number begins with a digit, or with `~` and a digit
abbrev pub sign_len : List ℕ → ℕ
sign_len text = if first text == 126 then 1 else 0

abbrev pub begins_number : List ℕ → Bool
begins_number text = is_digit (slice_index text (sign_len text))

-- `0x` and a hexadecimal digit
unfoldable pub begins_hex : List ℕ → Bool
begins_hex text = first text == 48 && (slice_index text 1 == 120 && is_hex_digit (slice_index text 2))

-- a word constant: `0w` and a digit, or `0wx` and a hexadecimal one
unfoldable pub begins_word : List ℕ → Bool
begins_word text =
    first text == 48 && (slice_index text 1 == 119
    && (is_digit (slice_index text 2) || (slice_index text 2 == 120 && is_hex_digit (slice_index text 3))))

-- a point and a digit after it, at a place
abbrev pub has_fraction : List ℕ → ℕ → Bool
has_fraction text at = slice_index text at == 46 && is_digit (slice_index text (at + 1))

-- `e` or `E` and a number after it, at a place
abbrev pub has_exponent : List ℕ → ℕ → Bool
has_exponent text at =
    (slice_index text at == 101 || slice_index text at == 69)
    && (is_digit (slice_index text (at + 1)) || (slice_index text (at + 1) == 126 && is_digit (slice_index text (at + 2))))

-- a real constant: digits, and a fraction or an exponent
unfoldable pub begins_real : List ℕ → Bool
begins_real text = let n = prefix_len is_digit text in has_fraction text n || has_exponent text n

-- a number with its sign, and whether it lies from -2^63 to 2^63 - 1
abbrev pub signed : Bool → ℕ → ℤ
signed negative n = if negative then neg_ℤ (pos n) else pos n

unfoldable pub in_range : Bool → ℕ → Bool
in_range negative n = nat_lt n (2 ^ 63) || (negative && n == 2 ^ 63)

-- an integer constant of so many bytes
unfoldable pub integer : Bool → ℕ → Bool → ℕ → Front
integer negative n label len =
    if in_range negative n then Lexeme (kind.Int (signed negative n) label) len else Refused 39

-- the constant whose digits are at the front of a text, after a sign of so many bytes: hexadecimal after `0x`, and decimal
unfoldable pub hex_front : ℕ → List ℕ → Front
hex_front sign digits =
    let n = prefix_len is_hex_digit digits in
    integer (sign == 1) (digits_value 16 (take n digits)) false (sign + 2 + n)

unfoldable pub decimal_front : ℕ → List ℕ → Front
decimal_front sign digits =
    let n = prefix_len is_digit digits in
    integer (sign == 1) (digits_value 10 (take n digits)) (sign == 0 && not (first digits == 48)) (sign + n)

-- a real constant, or a word constant, which has no sign
unfoldable pub is_left_out : ℕ → List ℕ → Bool
is_left_out sign digits = (sign == 0 && begins_word digits) || begins_real digits

unfoldable pub unsigned_front : ℕ → List ℕ → Front
unsigned_front sign digits =
    if begins_hex digits then hex_front sign (drop 2 digits)
    else if is_left_out sign digits then Refused 20
    else decimal_front sign digits

-- the number at the front of a text
unfoldable pub number_front : List ℕ → Front
number_front text = unsigned_front (sign_len text) (drop (sign_len text) text)
