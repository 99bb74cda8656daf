-- Which bytes stand where in a description.
use Rattle.std.specs.Prelude.{ℕ, Bool, not, ◌==◌, ◌&&◌, ◌||◌, nat_le}
use Rattle.cm_base.specs.ByteClasses.{is_letter, is_digit}

-- what separates tokens: space, tab and line feed
abbrev pub is_blank : ℕ → Bool
is_blank byte = (byte == 32) || ((byte == 9) || (byte == 10))

-- the bytes of words: letters, digits and _ . - / $ ' + ~ @ %
abbrev pub is_word_sign : ℕ → Bool
is_word_sign byte =
    ((byte == 95) || ((byte == 46) || ((byte == 45) || ((byte == 47) || (byte == 36)))))
    || ((byte == 39) || ((byte == 43) || ((byte == 126) || ((byte == 64) || (byte == 37)))))

abbrev pub is_word_byte : ℕ → Bool
is_word_byte byte = is_letter byte || (is_digit byte || is_word_sign byte)

-- the bytes between quotes: no quote, no backslash, no control byte; those from 128 on are allowed
abbrev pub is_quotable : ℕ → Bool
is_quotable byte = nat_le 32 byte && (not (byte == 127) && (not (byte == 34) && not (byte == 92)))

-- the bytes of a line: all but the line feed
abbrev pub is_in_line : ℕ → Bool
is_in_line byte = not (byte == 10)
