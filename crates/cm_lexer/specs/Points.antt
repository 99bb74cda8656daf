-- Points of a text: the bytes before them, and their lines and columns, which count from 1.
use Rattle.std.specs.Prelude.{ℕ, ◌+◌, ◌==◌, List, [], ◌∷◌, if◌then◌else◌}
use Rattle.cm_lexer.specs.declared.point.Point.{Point}

abbrev pub start : Point
start = record { at = 0; line = 1; col = 1 }

-- behind a byte: a line feed ends its line
abbrev pub after_byte : Point → ℕ → Point
after_byte p byte = record {
  at = p.at + 1;
  line = if byte == 10 then p.line + 1 else p.line;
  col = if byte == 10 then 1 else p.col + 1;
}

-- behind these bytes
abbrev pub after : Point → List ℕ → Point
after p [] = p
after p (byte ∷ bytes) = after (after_byte p byte) bytes
