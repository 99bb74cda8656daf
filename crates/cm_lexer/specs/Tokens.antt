-- The tokens of a description's text, with their places, and the first place at which it is refused.
use Rattle.std.specs.Prelude.{ℕ, zero, suc, ◌+◌, ◌==◌, ◌||◌, Bool, true, false, List, [], ◌∷◌, ◌++◌, Option, None, Some, Result, Ok, Err, length, take, drop}
use Rattle.std.specs.List.{list_any}
use Rattle.cm_base.specs.declared.diag.Diag.{Diag}
use Rattle.cm_lexer.specs.Points.{start, after}
use Rattle.cm_lexer.specs.Pieces.{piece_at}
use Rattle.cm_lexer.specs.declared.point.Point.{Point}
use Rattle.cm_lexer.specs.declared.token.TokenKind.{TokenKind}
use Rattle.cm_lexer.specs.declared.token.TokenKind.TheVariants as kind
use Rattle.cm_lexer.specs.declared.token.Token.{Token}
use Rattle.cm_lexer.specs.declared.token.Scan.{Scan}
use Rattle.cm_lexer.specs.declared.piece.Piece.{Piece}
use Rattle.cm_lexer.specs.declared.piece.Piece.TheVariants as piece

-- no token, up to the end of the text
abbrev pub ended : Scan
ended = record { tokens = []; wrong = None }

-- no token, up to this place, at which the text is refused
abbrev pub refused : Point → Scan
refused p = record { tokens = []; wrong = Some p }

-- these tokens, and then what follows
abbrev pub onto : List Token → Scan → Scan
onto tokens scan = record { tokens = tokens ++ scan.tokens; wrong = scan.wrong }

-- a token of so many bytes
abbrev pub token_at : TokenKind → ℕ → Point → Token
token_at kind len p = record { kind = kind; start = p.at; end = p.at + len; line = p.line; col = p.col }

-- the tokens from a point on; whether nothing but blanks and comments stands before it on its line
abbrev pub Scanning : Type 0
Scanning = Bool → Point → List ℕ → Scan

-- a token of so many bytes, and then those behind it
abbrev pub token_then : Scanning → TokenKind → ℕ → Point → List ℕ → Scan
token_then scan kind len p bytes =
    onto (token_at kind len p ∷ []) (scan false (after p (take len bytes)) (drop len bytes))

-- what stands at the front, and then the tokens behind it
abbrev pub by_piece : Scanning → Bool → Point → List ℕ → Piece → Scan
by_piece scan first p bytes (piece.Gap len) =
    scan (first || list_any (λ byte. byte == 10) (take len bytes)) (after p (take len bytes)) (drop len bytes)
by_piece scan first p bytes (piece.Token kind len) = token_then scan kind len p bytes
by_piece scan first p bytes (piece.Directive len more) =
    token_then (λ _ q rest. token_then scan kind.Rest more q rest) kind.Directive len p bytes
by_piece scan first p bytes (piece.Wrong len) = refused (after p (take len bytes))

-- the tokens of a text of at most so many pieces
abbrev pub scan_pieces : ℕ → Scanning
scan_pieces zero first p bytes = ended
scan_pieces (suc n) first p [] = ended
scan_pieces (suc n) first p (byte ∷ bytes) =
    by_piece (scan_pieces n) first p (byte ∷ bytes) (piece_at first byte bytes)

-- the tokens from a point on: each piece has a byte at least, so that there are no more pieces than bytes
unfoldable pub scan_from : Scanning
scan_from first p bytes = scan_pieces (length bytes) first p bytes

-- the tokens of a text up to its end, or up to the first place at which it is refused
abbrev pub scan_of : List ℕ → Scan
scan_of text = scan_from true start text

abbrev pub refusal : List ℕ → Point → Diag
refusal file p = record { number = 2; at = record { file = file; line = p.line; col = p.col }; names = [] }

abbrev pub answer_of : List ℕ → List Token → Option Point → Result (List Token) Diag
answer_of file tokens None = Ok tokens
answer_of file tokens (Some p) = Err (refusal file p)

-- the tokens of a text, or its refusal
abbrev pub tokens_of : List ℕ → List ℕ → Result (List Token) Diag
tokens_of file text = answer_of file (scan_of text).tokens (scan_of text).wrong
