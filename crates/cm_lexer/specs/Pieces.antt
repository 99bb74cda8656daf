-- What may stand at one place of a description: a blank, a comment, a word, a quoted text, a mark or a directive.
use Rattle.std.specs.Prelude.{ℕ, suc, zero, ◌+◌, ◌≤◌, ◌==◌, ◌&&◌, ◌||◌, Bool, nat_eq, List, [], ◌∷◌, Option, None, Some, take, drop, codes, if◌then◌else◌, slice_get, option_map}
use Rattle.std.specs.List.{prefix_len}
use Rattle.cm_lexer.specs.Bytes.{is_blank, is_word_byte, is_quotable, is_in_line}
use Rattle.cm_lexer.specs.declared.token.TokenKind.TheVariants as kind
use Rattle.cm_lexer.specs.declared.piece.Piece.{Piece}
use Rattle.cm_lexer.specs.declared.piece.Piece.TheVariants as piece
use lib.Pointwise.{pointwise}

-- whether two bytes open a comment, or close one
abbrev pub opens : ℕ → ℕ → Bool
opens a b = (a == 40) && (b == 42)

abbrev pub closes : ℕ → ℕ → Bool
closes a b = (a == 42) && (b == 41)

abbrev pub longer : ℕ → Option ℕ → Option ℕ
longer n len = option_map (λ m. n + m) len

-- the bytes up to the end of so many open comments, which nest; none where the text ends in one of them
abbrev pub comment_len : ℕ → List ℕ → Option ℕ
comment_len zero bytes = Some 0
comment_len (suc depth) [] = None
comment_len (suc depth) (a ∷ []) = None
comment_len (suc depth) (a ∷ (b ∷ bytes)) =
    if opens a b then longer 2 (comment_len (suc (suc depth)) bytes)
    else (if closes a b then longer 2 (comment_len depth bytes) else longer 1 (comment_len (suc depth) (b ∷ bytes)))

-- a comment as a whole, or an open one, which is refused at its first byte
abbrev pub comment_piece : Option ℕ → Piece
comment_piece None = piece.Wrong 0
comment_piece (Some len) = piece.Gap (2 + len)

-- behind an opening bracket: a comment begins, or the bracket stands by itself
abbrev pub after_open : List ℕ → Piece
after_open [] = piece.Token kind.Open 1
after_open (byte ∷ bytes) = if byte == 42 then comment_piece (comment_len 1 bytes) else piece.Token kind.Open 1

-- a quoted text of so many bytes between its quotes, by what stands behind those: a text that ends there is refused
-- at the quote that opens it, and another byte than a quote at that byte
abbrev pub quoted_piece : ℕ → Option ℕ → Piece
quoted_piece len None = piece.Wrong 0
quoted_piece len (Some byte) = if byte == 34 then piece.Token kind.Quoted (2 + len) else piece.Wrong (1 + len)

abbrev pub after_quote : List ℕ → Piece
after_quote bytes = quoted_piece (prefix_len is_quotable bytes) (slice_get bytes (prefix_len is_quotable bytes))

-- the words of the directives, behind their sign
unfoldable pub is_directive : List ℕ → Bool
is_directive word =
    pointwise nat_eq word (codes "if") || (pointwise nat_eq word (codes "elif")
    || (pointwise nat_eq word (codes "else") || (pointwise nat_eq word (codes "endif") || pointwise nat_eq word
    (codes "error"))))

-- behind a `#`, which is a directive only with its whole word, and where nothing but blanks and comments stands
-- before it on its line; the rest of the line belongs to it
abbrev pub after_sign : Bool → List ℕ → Piece
after_sign first bytes =
    if first && is_directive (take (prefix_len is_word_byte bytes) bytes)
    then piece.Directive (1 + prefix_len is_word_byte bytes)
    (prefix_len is_in_line (drop (prefix_len is_word_byte bytes) bytes))
    else piece.Wrong 0

-- the piece that begins with this byte, before these; a word is as long as can be
abbrev pub piece_at : Bool → ℕ → List ℕ → Piece
piece_at first byte bytes =
    if is_blank byte then piece.Gap 1
    else (if is_word_byte byte then piece.Token kind.Word (1 + prefix_len is_word_byte bytes)
    else (if byte == 34 then after_quote bytes
    else (if byte == 35 then after_sign first bytes
    else (if byte == 40 then after_open bytes
    else (if byte == 41 then piece.Token kind.Close 1
    else (if byte == 58 then piece.Token kind.Colon 1
    else piece.Wrong 0))))))

-- a piece has a byte at least, and lies within a text of so many bytes
abbrev pub FitsIn : ℕ → Piece → Type 0
FitsIn n (piece.Gap len) = (1 ≤ len) × (len ≤ n)
FitsIn n (piece.Token kind len) = (1 ≤ len) × (len ≤ n)
FitsIn n (piece.Directive len more) = (1 ≤ len) × (len + more ≤ n)
FitsIn n (piece.Wrong len) = len ≤ n
