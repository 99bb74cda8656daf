-- A text cut into its lexemes and the gaps between them. The laws: a text has at most one such cutting, its pieces give
-- back the text, and where it has one, its lexemes are those of the text, each at the place that its piece begins at.
use Rattle.std.specs.Prelude.{◌≡◌, ◌≤◌, ⊤, ℕ, List, [], ◌∷◌, ◌++◌, length, Option, Some, None, Ok, All}
use Rattle.std.specs.List.{fold, flat_map, join_with_byte}
use Rattle.sml_lexer.specs.declared.lexeme.Lexeme.{Lexeme}
use Rattle.sml_lexer.specs.declared.lexeme.LexemeKind.{LexemeKind}
use Rattle.sml_lexer.specs.declared.lexeme.LexemeKind.TheVariants as kind
use Rattle.sml_lexer.specs.declared.place.Point.{Point}
use Rattle.sml_lexer.specs.declared.front.Front.{Front}
use Rattle.sml_lexer.specs.declared.front.Front.TheVariants as at_front
use Rattle.sml_lexer.specs.Fronts.{front}
use Rattle.sml_lexer.specs.Lexing.{after_byte, lexemes_of}

-- a piece of a text: a lexeme, or separators or a comment, which have no kind
pub record Piece : Type 0 where
  pub bytes : List ℕ
  pub kind : Option LexemeKind

-- what stands at the front of a text that begins with so many bytes of a kind
abbrev pub front_of : Option LexemeKind → ℕ → Front
front_of None len = at_front.Gap len
front_of (Some kind) len = at_front.Lexeme kind len

-- the pieces of a text: each has a byte, and is what stands at the front of the text from it on
abbrev pub IsCutting : List Piece → List ℕ → Type 0
IsCutting [] text = text ≡ []
IsCutting (p ∷ ps) text =
    (rest : List ℕ) × (text ≡ p.bytes ++ rest) × (1 ≤ length p.bytes) × (front text ≡ front_of p.kind (length p.bytes)) × IsCutting ps rest

-- a piece that is a lexeme before other lexemes
abbrev pub placed_piece : Option LexemeKind → Point → List Lexeme → List Lexeme
placed_piece None at lexemes = lexemes
placed_piece (Some kind) at lexemes = record { kind = kind; line = at.line; col = at.col } ∷ lexemes

-- the lexemes among the pieces of a text that begins at a place
abbrev pub placed : Point → List Piece → List Lexeme
placed at [] = []
placed at (p ∷ ps) = placed_piece p.kind at (placed (fold after_byte at p.bytes) ps)

-- the bytes of a word are its own, and those of a long identifier its parts with a dot between each two
abbrev pub IsSpelledBy : LexemeKind → List ℕ → Type 0
IsSpelledBy (kind.Reserved word) bytes = bytes ≡ word
IsSpelledBy (kind.Name parts) bytes = bytes ≡ join_with_byte 46 parts
IsSpelledBy (kind.TyVar word) bytes = bytes ≡ word
IsSpelledBy _ bytes = ⊤

abbrev pub PieceSpells : Option LexemeKind → List ℕ → Type 0
PieceSpells None bytes = ⊤
PieceSpells (Some k) bytes = IsSpelledBy k bytes

abbrev pub PiecesSpell : Type 0
PiecesSpell = (text : List ℕ) (ps : List Piece) → IsCutting ps text → All (λ p. PieceSpells p.kind p.bytes) ps

abbrev pub IsCutInOneWay : Type 0
IsCutInOneWay = (text : List ℕ) (ps qs : List Piece) → IsCutting ps text → IsCutting qs text → ps ≡ qs

abbrev pub PiecesGiveBack : Type 0
PiecesGiveBack = (text : List ℕ) (ps : List Piece) → IsCutting ps text → flat_map (λ p. p.bytes) ps ≡ text

abbrev pub LexemesAreCut : Type 0
LexemesAreCut =
    (file source : List ℕ) (lexemes : List Lexeme) → lexemes_of file source ≡ Ok lexemes
    → (ps : List Piece) × IsCutting ps source × (lexemes ≡ placed (record { line = 1; col = 1 }) ps)

abbrev pub CutTextIsLexed : Type 0
CutTextIsLexed =
    (file source : List ℕ) (ps : List Piece) → length source ≤ 1048576 → IsCutting ps source
    → lexemes_of file source ≡ Ok (placed (record { line = 1; col = 1 }) ps)
