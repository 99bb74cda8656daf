-- Classes of bytes: letters, digits and the bytes of identifiers, as ASCII has them.
use Rattle.std.specs.Prelude.{ℕ, ◌-◌, ◌==◌, ◌&&◌, ◌||◌, Bool, if◌then◌else◌, nat_le}

abbrev pub between : ℕ → ℕ → ℕ → Bool
between low high byte = nat_le low byte && nat_le byte high

abbrev pub is_letter : ℕ → Bool
is_letter byte = between 65 90 byte || between 97 122 byte

abbrev pub is_digit : ℕ → Bool
is_digit byte = between 48 57 byte

-- the bytes of an alphanumeric identifier: letters, digits, `_` and the prime
abbrev pub is_identifier_byte : ℕ → Bool
is_identifier_byte byte = is_letter byte || (is_digit byte || ((byte == 95) || (byte == 39)))

abbrev pub capital : ℕ → ℕ
capital byte = if between 97 122 byte then byte - 32 else byte
