-- The lexeme that begins one more round of a sequence, by its word.
use Rattle.std.specs.Prelude.{Bool, true, false, Option, None, Some}
use Rattle.sml_lexer.specs.declared.lexeme.Lexeme.{Lexeme}
use Rattle.phrase_reading.specs.Words.{word}
use Rattle.sml_lexer.specs.declared.words.Word.{Word}

abbrev pub if_begins : Bool → Lexeme → Option Lexeme
if_begins true x = Some x
if_begins false x = None

-- the next lexeme, if a round begins with its word
abbrev pub next_begin : (Option Word → Bool) → Option Lexeme → Option Lexeme
next_begin t None = None
next_begin t (Some x) = if_begins (t (word x)) x
