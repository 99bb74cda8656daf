-- What is known of each lexeme of a source: how long its names are and of which bytes, and what its constants are.
use Rattle.std.specs.Prelude.{◌≡◌, ◌≤◌, ⊤, ℕ, FitsSigned, Bool, true, ◌&&◌, nat_le, nat_lt, List, length, Ok, All}
use Rattle.std.specs.List.{list_all}
use Rattle.std.specs.Int.{w64}
use Rattle.sml_lexer.specs.declared.lexeme.Lexeme.{Lexeme}
use Rattle.sml_lexer.specs.declared.lexeme.LexemeKind.{LexemeKind}
use Rattle.sml_lexer.specs.declared.lexeme.LexemeKind.TheVariants as kind
use Rattle.sml_lexer.specs.Lexing.{lexemes_of}

-- a printable byte other than the space
abbrev pub is_printed : ℕ → Bool
is_printed b = nat_le 33 b && nat_le b 126

-- a name of one part: 1 to 255 bytes from 33 to 126
pub record IsNameText (text : List ℕ) : Type 0 where
  pub some : 1 ≤ length text
  pub few : length text ≤ 255
  pub printed : list_all is_printed text ≡ true

abbrev pub is_byte : ℕ → Bool
is_byte b = nat_lt b 256

-- each item is a byte
abbrev pub AreBytes : List ℕ → Type 0
AreBytes text = list_all is_byte text ≡ true

abbrev pub IsWithinLimits : LexemeKind → Type 0
IsWithinLimits (kind.Reserved word) = ⊤
IsWithinLimits (kind.Name parts) = (1 ≤ length parts) × All IsNameText parts
IsWithinLimits (kind.TyVar text) = IsNameText text
IsWithinLimits (kind.Int value label) = FitsSigned w64 value
IsWithinLimits (kind.Str text) = AreBytes text
IsWithinLimits (kind.Char byte) = is_byte byte ≡ true

abbrev pub LexemesAreWithinLimits : Type 0
LexemesAreWithinLimits =
    (file source : List ℕ) (lexemes : List Lexeme) → AreBytes source → lexemes_of file source ≡ Ok lexemes
    → All (λ x. IsWithinLimits x.kind) lexemes
