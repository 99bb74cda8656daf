-- Each piece has a byte at least, and lies within the text.
use Rattle.std.proofs.Common.{◌≡◌, ◌+◌, ℕ, Bool, true, false, List, [], ◌∷◌, length, Option, None, Some, refl, subst, arith, if◌then◌else◌, ◌==◌, ◌&&◌, take, drop, slice_get, length-drop}
use Rattle.std.specs.List.{prefix_len}
use Rattle.std.proofs.lemmas.List.Sums.{prefix_len-le-length}
use Rattle.std.proofs.lemmas.Option.{slice_get_within}
use Rattle.cm_lexer.specs.Bytes.{is_blank, is_word_byte, is_quotable, is_in_line}
use Rattle.cm_lexer.specs.Pieces.{comment_len, comment_piece, after_open, quoted_piece, is_directive, after_sign, piece_at, FitsIn}
use Rattle.cm_lexer.specs.declared.piece.Piece.{Piece}
use Rattle.cm_lexer.proofs.Comments.{IsWithin, comment_within}

if_fits : (n : ℕ) (b : Bool) (p q : Piece) → FitsIn n p → FitsIn n q → FitsIn n (if b then p else q)
if_fits n true p q f g = f
if_fits n false p q f g = g

comment_fits : (n : ℕ) (o : Option ℕ) → IsWithin n o → FitsIn (2 + n) (comment_piece o)
comment_fits n None h = omega arith
comment_fits n (Some len) h = (omega arith, omega arith)

pub open_fits : (bytes : List ℕ) → FitsIn (1 + length bytes) (after_open bytes)
open_fits [] = (omega arith, omega arith)
open_fits (byte ∷ bytes) =
    if_fits (1 + length (byte ∷ bytes)) (byte == 42) _ _
    (subst (λ n. FitsIn n (comment_piece (comment_len 1 bytes))) (omega arith)
    (comment_fits (length bytes) (comment_len 1 bytes) (comment_within 1 bytes)))
    (omega arith, omega arith)

quoted_fits : (bytes : List ℕ) (len : ℕ) (o : Option ℕ) → slice_get bytes len ≡ o
    → FitsIn (1 + length bytes) (quoted_piece len o)
quoted_fits bytes len None h = omega arith
quoted_fits bytes len (Some byte) h =
    let within = slice_get_within bytes len byte h in
    if_fits (1 + length bytes) (byte == 34) _ _ (omega arith, omega arith) (omega arith)

pub sign_fits : (first : Bool) (bytes : List ℕ) → FitsIn (1 + length bytes) (after_sign first bytes)
sign_fits first bytes =
    let word = prefix_len is_word_byte bytes in
    let le = prefix_len-le-length is_word_byte bytes in
    let more = prefix_len-le-length is_in_line (drop word bytes) in
    let rest = length-drop word bytes in
    if_fits (1 + length bytes) (first && is_directive (take word bytes)) _ _ (
      omega arith,
      omega
          (arith, le, more, rest),
    ) (omega arith)

pub piece_fits : (first : Bool) (byte : ℕ) (bytes : List ℕ) → FitsIn (1 + length bytes) (piece_at first byte bytes)
piece_fits first byte bytes =
    let n = 1 + length bytes in
    let word = prefix_len-le-length is_word_byte bytes in
    if_fits n (is_blank byte) _ _ (omega arith, omega arith)
    (if_fits n (is_word_byte byte) _ _ (omega arith, omega (arith, word))
    (if_fits n (byte == 34) _ _ (quoted_fits bytes (prefix_len is_quotable bytes) _ refl)
    (if_fits n (byte == 35) _ _ (sign_fits first bytes)
    (if_fits n (byte == 40) _ _ (open_fits bytes)
    (if_fits n (byte == 41) _ _ (omega arith, omega arith)
    (if_fits n (byte == 58) _ _ (omega arith, omega arith) (omega arith)))))))
