-- The lexemes of a condition's text, which spaces and tabs separate. Each is as long as can be.
use Rattle.std.specs.Prelude.{ℕ, zero, suc, ◌+◌, ◌*◌, ◌-◌, ◌^◌, ◌==◌, ◌&&◌, ◌||◌, Bool, Option, None, Some, List, [], ◌∷◌, take, drop, length, if◌then◌else◌, nat_lt, pos}
use Rattle.std.specs.List.{prefix_len}
use Rattle.cm_base.specs.ByteClasses.{is_letter, is_digit, is_identifier_byte}
use Rattle.cm_conditions.specs.declared.lexeme.Mark.{Mark}
use Rattle.cm_conditions.specs.declared.lexeme.Mark.TheVariants as m
use Rattle.cm_conditions.specs.declared.lexeme.Lexeme.{Lexeme}
use Rattle.cm_conditions.specs.declared.lexeme.Lexeme.TheVariants as x

abbrev pub is_space : ℕ → Bool
is_space byte = (byte == 32) || (byte == 9)

-- the number that decimal digits are, behind one of this value
abbrev pub number_from : ℕ → List ℕ → ℕ
number_from n [] = n
number_from n (digit ∷ digits) = number_from (10 * n + (digit - 48)) digits

-- a number, up to the greatest of 64 bits
unfoldable pub number_lexeme : ℕ → Lexeme
number_lexeme n = if nat_lt n (2 ^ 63) then x.Number (pos n) else x.Wrong

-- the first of these bytes, or 0
abbrev pub next_of : List ℕ → ℕ
next_of [] = 0
next_of (byte ∷ bytes) = byte

-- a mark of two bytes
abbrev pub two_bytes : ℕ → ℕ → Option Mark
two_bytes a b =
    if (a == 60) && (b == 62) then Some m.Unequal
    else (if (a == 60) && (b == 61) then Some m.LessEqual
    else (if (a == 62) && (b == 61) then Some m.GreaterEqual else None))

-- a mark of one byte
abbrev pub one_byte : ℕ → Option Mark
one_byte a =
    if a == 40 then Some m.Open
    else (if a == 41 then Some m.Close
    else (if a == 42 then Some m.Times
    else (if a == 43 then Some m.Plus
    else (if a == 45 then Some m.Minus
    else (if a == 60 then Some m.Less
    else (if a == 61 then Some m.Equal
    else (if a == 62 then Some m.Greater else None)))))))

abbrev pub mark_or_wrong : Option Mark → Lexeme
mark_or_wrong None = x.Wrong
mark_or_wrong (Some mark) = x.Mark mark

-- a mark of two bytes, if one stands there, and else one of one byte; any other byte begins no lexeme
abbrev pub mark_lexeme : Option Mark → ℕ → Lexeme
mark_lexeme None byte = mark_or_wrong (one_byte byte)
mark_lexeme (Some mark) byte = x.Mark mark

abbrev pub mark_more : Option Mark → ℕ
mark_more None = 0
mark_more (Some mark) = 1

-- the number of bytes that belong to a lexeme behind its first
abbrev pub more_of : ℕ → List ℕ → ℕ
more_of byte bytes =
    if is_digit byte then prefix_len is_digit bytes
    else (if is_letter byte then prefix_len is_identifier_byte bytes
    else mark_more (two_bytes byte (next_of bytes)))

-- the lexeme that begins with this byte, before these
abbrev pub lexeme_at : ℕ → List ℕ → Lexeme
lexeme_at byte bytes =
    if is_digit byte then number_lexeme (number_from 0 (take (1 + more_of byte bytes) (byte ∷ bytes)))
    else (if is_letter byte then x.Word (take (1 + more_of byte bytes) (byte ∷ bytes))
    else mark_lexeme (two_bytes byte (next_of bytes)) byte)

-- the lexemes of a text of at most so many bytes
abbrev pub lexemes_within : ℕ → List ℕ → List Lexeme
lexemes_within zero bytes = []
lexemes_within (suc n) [] = []
lexemes_within (suc n) (byte ∷ bytes) =
    if is_space byte then lexemes_within n bytes
    else lexeme_at byte bytes ∷ lexemes_within n (drop (more_of byte bytes) bytes)

-- the lexemes of a text: each has a byte at least, so that there are no more than bytes
unfoldable pub lexemes_of : List ℕ → List Lexeme
lexemes_of text = lexemes_within (length text) text
