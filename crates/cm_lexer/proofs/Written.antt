-- The tokens of a text are spelled as their kinds ask, and no word is empty.
use Rattle.std.proofs.Common.{◌≡◌, ◌≤◌, ◌+◌, ◌-◌, ℕ, zero, suc, Bool, List, [], ◌∷◌, length, refl, sym, subst, arith, take, drop}
use Rattle.std.proofs.lemmas.List.{take-append-drop, length-take-le}
use Rattle.cm_lexer.specs.Points.{start, after}
use Rattle.cm_lexer.specs.Pieces.{piece_at, FitsIn}
use Rattle.cm_lexer.specs.Spelling.{IsSpelled, slice_of}
use Rattle.cm_lexer.specs.Tokens.{Scanning, token_at, by_piece, scan_pieces, scan_from, scan_of}
use Rattle.cm_lexer.specs.declared.piece.Piece.{Piece}
use Rattle.cm_lexer.specs.declared.piece.Piece.TheVariants as piece
use Rattle.cm_lexer.specs.declared.point.Point.{Point}
use Rattle.cm_lexer.specs.declared.token.Token.{Token}
use Rattle.cm_lexer.specs.declared.token.TokenKind.{TokenKind}
use Rattle.cm_lexer.specs.declared.token.TokenKind.TheVariants as kind
use Rattle.cm_lexer.proofs.Fitting.{piece_fits}
use Rattle.cm_lexer.proofs.Spelled.{PieceSpelled, piece_spelled}
use Rattle.cm_lexer.proofs.Scanning.{IsAt, at_after}

-- a word has a byte at least
abbrev pub HasBytes : TokenKind → List ℕ → Type 0
HasBytes kind.Word text = 1 ≤ length text
HasBytes kind.Quoted text = Unit {0}
HasBytes kind.Colon text = Unit {0}
HasBytes kind.Open text = Unit {0}
HasBytes kind.Close text = Unit {0}
HasBytes kind.Directive text = Unit {0}
HasBytes kind.Rest text = Unit {0}

has_bytes : (k : TokenKind) (text : List ℕ) → 1 ≤ length text → HasBytes k text
has_bytes kind.Word text h = h
has_bytes kind.Quoted text h = tt
has_bytes kind.Colon text h = tt
has_bytes kind.Open text h = tt
has_bytes kind.Close text h = tt
has_bytes kind.Directive text h = tt
has_bytes kind.Rest text h = tt

-- a token of this text
pub record IsWritten (text : List ℕ) (x : Token) : Type 0 where
  pub spelled : IsSpelled x.kind (slice_of text x)
  pub some : HasBytes x.kind (slice_of text x)

abbrev pub AreWritten : List ℕ → List Token → Type 0
AreWritten text [] = Unit {0}
AreWritten text (x ∷ xs) = IsWritten text x × AreWritten text xs

passes : (text : List ℕ) (p : Point) (bytes : List ℕ) (n : ℕ) → IsAt text p bytes
    → IsAt text (after p (take n bytes)) (drop n bytes)
passes text p bytes n at = at_after (take n bytes) (drop n bytes)
    (subst (IsAt text p) (sym (take-append-drop n bytes)) at)

one_written : (text : List ℕ) (p : Point) (bytes : List ℕ) (k : TokenKind) (n : ℕ) → IsAt text p bytes
    → IsSpelled k (take n bytes) → HasBytes k (take n bytes) → IsWritten text (token_at k n p)
one_written text p bytes k n at spelled some =
    let len : (p.at + n) - p.at ≡ n = omega arith in
    let slice : slice_of text (token_at k n p) ≡ take n bytes = rw (len, at.rest) refl in
    record { spelled = subst (IsSpelled k) (sym slice) spelled; some = subst (HasBytes k) (sym slice) some }

piece_written : (text : List ℕ) (scan : Scanning) (first : Bool) (p : Point) (bytes : List ℕ) (found : Piece)
    → IsAt text p bytes → FitsIn (length bytes) found → PieceSpelled bytes found
    → ((first : Bool) (q : Point) (rest : List ℕ) → IsAt text q rest → AreWritten text (scan first q rest).tokens)
    → AreWritten text (by_piece scan first p bytes found).tokens
piece_written text scan first p bytes (piece.Gap len) at fits spelled all = all _ _ _ (passes text p bytes len at)
piece_written text scan first p bytes (piece.Token k len) at fits spelled all =
    let size : length (take len bytes) ≡ len = length-take-le len bytes fits.1 in (
      one_written text p bytes k len at spelled (has_bytes k (take len bytes) (omega (arith, size, fits.0))),
      all _ _ _ (passes text p bytes len at),
    )
piece_written text scan first p bytes (piece.Directive len more) at fits spelled all =
    let next = passes text p bytes len at in (
      one_written text p bytes kind.Directive len at spelled.0 tt,
      (
        one_written text _ (drop len bytes) kind.Rest more next spelled.1 tt,
        all _ _ _ (passes text _ (drop len bytes) more next),
      ),
    )
piece_written text scan first p bytes (piece.Wrong len) at fits spelled all = tt

pieces_written : (text : List ℕ) (n : ℕ) (first : Bool) (p : Point) (bytes : List ℕ) → IsAt text p bytes
    → AreWritten text (scan_pieces n first p bytes).tokens
pieces_written text zero first p bytes at = tt
pieces_written text (suc n) first p [] at = tt
pieces_written text (suc n) first p (byte ∷ bytes) at =
    piece_written text (scan_pieces n) first p (byte ∷ bytes) (piece_at first byte bytes) at
    (subst (λ m. FitsIn m (piece_at first byte bytes)) (omega arith) (piece_fits first byte bytes))
    (piece_spelled first byte bytes) (λ first q rest next. pieces_written text n first q rest next)

-- the tokens of a whole text
pub all_written : (text : List ℕ) → AreWritten text (scan_of text).tokens
unfolding scan_from
all_written text = pieces_written text _ _ start text (record { rest = refl })
