-- The tokens from a point on are by the piece there, and then those behind it.
use Rattle.std.proofs.Common.{◌≡◌, ◌≤◌, ◌<◌, ◌+◌, ◌||◌, ◌==◌, ℕ, zero, suc, Bool, false, List, [], ◌∷◌, ◌++◌, length, refl, sym, ap, ◌∙◌, arith, take, drop, length-drop, append-nil, append_assoc, None}
use Rattle.std.specs.List.{list_any}
use Rattle.cm_lexer.specs.Points.{after}
use Rattle.cm_lexer.specs.Pieces.{piece_at, FitsIn}
use Rattle.cm_lexer.specs.Tokens.{Scanning, ended, refused, onto, token_at, by_piece, scan_pieces, scan_from}
use Rattle.cm_lexer.specs.declared.point.Point.{Point}
use Rattle.cm_lexer.specs.declared.token.Token.{Token}
use Rattle.cm_lexer.specs.declared.token.Scan.{Scan}
use Rattle.cm_lexer.specs.declared.token.TokenKind.{TokenKind}
use Rattle.cm_lexer.specs.declared.token.TokenKind.TheVariants as kind
use Rattle.cm_lexer.specs.declared.piece.Piece.{Piece}
use Rattle.cm_lexer.specs.declared.piece.Piece.TheVariants as piece
use Rattle.cm_lexer.proofs.Fitting.{piece_fits}

-- what stands behind a piece is read alike
same_behind : (f g : Scanning) (n : ℕ) (first : Bool) (p : Point) (bytes : List ℕ) (piece : Piece) → FitsIn n piece
    → length bytes ≡ n
    → ((first : Bool) (p : Point) (rest : List ℕ) → length rest < n → f first p rest ≡ g first p rest)
    → by_piece f first p bytes piece ≡ by_piece g first p bytes piece
same_behind f g n first p bytes (piece.Gap len) fits is same =
    same (first || list_any (λ byte. byte == 10) (take len bytes)) (after p (take len bytes)) (drop len bytes)
    (omega (arith, length-drop len bytes, fits.0, fits.1))
same_behind f g n first p bytes (piece.Token k len) fits is same =
    ap (onto (token_at k len p ∷ [])) (same false (after p (take len bytes)) (drop len bytes)
    (omega (arith, length-drop len bytes, fits.0, fits.1)))
same_behind f g n first p bytes (piece.Directive len more) fits is same =
    let q = after p (take len bytes) in
    let rest = drop len bytes in
    ap (λ (scan : Scan). onto (token_at kind.Directive len p ∷ []) (onto (token_at kind.Rest more q ∷ []) scan))
    (same false (after q (take more rest)) (drop more rest)
    (omega (arith, length-drop len bytes, length-drop more rest, fits.0, fits.1)))
same_behind f g n first p bytes (piece.Wrong len) fits is same = refl

-- more pieces than there can be change nothing
enough : (n m : ℕ) (first : Bool) (p : Point) (bytes : List ℕ) → length bytes ≤ n → length bytes ≤ m
    → scan_pieces n first p bytes ≡ scan_pieces m first p bytes
enough zero zero first p bytes h k = refl
enough zero (suc m) first p [] h k = refl
enough (suc n) zero first p [] h k = refl
enough (suc n) (suc m) first p [] h k = refl
enough zero (suc m) first p (byte ∷ bytes) h k = absurd (omega arith)
enough (suc n) zero first p (byte ∷ bytes) h k = absurd (omega arith)
enough (suc n) (suc m) first p (byte ∷ bytes) h k =
    same_behind (scan_pieces n) (scan_pieces m) (1 + length bytes) first p (byte ∷ bytes) (piece_at first byte bytes)
    (piece_fits first byte bytes) (omega arith)
    (λ first p rest lt. enough n m first p rest (omega arith) (omega arith))

-- nothing stands at the end
pub scan_none : (first : Bool) (p : Point) → scan_from first p [] ≡ ended
unfolding scan_from
scan_none first p = refl

pub scan_some : (first : Bool) (p : Point) (byte : ℕ) (bytes : List ℕ)
    → scan_from first p (byte ∷ bytes) ≡ by_piece scan_from first p (byte ∷ bytes) (piece_at first byte bytes)
unfolding scan_from
scan_some first p byte bytes =
    same_behind (scan_pieces (length bytes)) (λ first p bytes. scan_pieces (length bytes) first p bytes)
    (1 + length bytes) first p
    (byte ∷ bytes) (piece_at first byte bytes) (piece_fits first byte bytes) (omega arith)
    (λ first p rest lt. enough (length bytes) (length rest) first p rest (omega arith) (omega arith))

-- tokens found, and those that one step more finds
pub onto_onto : (found more : List Token) (scan : Scan) → onto found (onto more scan) ≡ onto (found ++ more) scan
onto_onto found more scan = ap (λ (tokens : List Token). let s : Scan = record { tokens = tokens; wrong = scan.wrong } in s)
    (sym (append_assoc found more scan.tokens))

-- a gap is passed
pub step_gap : (found : List Token) (first : Bool) (p : Point) (byte len : ℕ) (bytes text : List ℕ)
    → text ≡ byte ∷ bytes
    → piece_at first byte bytes ≡ piece.Gap len
    → onto found (scan_from (first || list_any (λ byte. byte == 10) (take len text)) (after p (take len text))
    (drop len text))
    ≡ onto found (scan_from first p text)
step_gap found first p byte len bytes text is gap =
    ap (onto found) (rw is (sym (scan_some first p byte bytes ∙ ap (by_piece scan_from first p (byte ∷ bytes)) gap)))

-- a token is taken
pub step_token : (found : List Token) (first : Bool) (p : Point) (k : TokenKind) (byte len : ℕ)
    (bytes text : List ℕ) → text ≡ byte ∷ bytes
    → piece_at first byte bytes ≡ piece.Token k len
    → onto (found ++ token_at k len p ∷ []) (scan_from false (after p (take len text)) (drop len text))
    ≡ onto found (scan_from first p text)
step_token found first p k byte len bytes text is token =
    sym (onto_onto found (token_at k len p ∷ []) _)
    ∙ ap (onto found) (rw is (sym (scan_some first p byte bytes ∙ ap (by_piece scan_from first p
    (byte ∷ bytes)) token)))

-- a directive is taken with the rest of its line
pub step_directive : (found : List Token) (first : Bool) (p : Point) (byte len more : ℕ) (bytes text : List ℕ)
    → text ≡ byte ∷ bytes
    → piece_at first byte bytes ≡ piece.Directive len more
    → onto ((found ++ token_at kind.Directive len p ∷ []) ++ token_at kind.Rest more (after p (take len text)) ∷ [])
    (scan_from false (after (after p (take len text)) (take more (drop len text))) (drop more (drop len text)))
    ≡ onto found (scan_from first p text)
step_directive found first p byte len more bytes text is directive =
    sym (onto_onto (found ++ token_at kind.Directive len p ∷ []) (token_at kind.Rest more (after p
    (take len text)) ∷ []) _)
    ∙ sym (onto_onto found (token_at kind.Directive len p ∷ []) _)
    ∙ ap (onto found) (rw is (sym (scan_some first p byte bytes ∙ ap (by_piece scan_from first p
    (byte ∷ bytes)) directive)))

-- the text is refused
pub step_wrong : (found : List Token) (first : Bool) (p : Point) (byte len : ℕ) (bytes text : List ℕ)
    → text ≡ byte ∷ bytes
    → piece_at first byte bytes ≡ piece.Wrong len
    → onto found (refused (after p (take len text))) ≡ onto found (scan_from first p text)
step_wrong found first p byte len bytes text is wrong =
    ap (onto found) (rw is (sym (scan_some first p byte bytes ∙ ap (by_piece scan_from first p (byte ∷ bytes)) wrong)))

pub ruleset steps = (step_gap, step_token, step_directive, step_wrong)

-- the end of a text
pub scan_end : (found : List Token) (first : Bool) (p : Point) (text : List ℕ) → length text ≡ 0
    → onto found (scan_from first p text) ≡ record { tokens = found; wrong = None }
scan_end found first p [] h = ap (onto found) (scan_none first p)
    ∙ ap (λ (tokens : List Token). let s : Scan = record { tokens = tokens; wrong = None } in s) (append-nil found)
scan_end found first p (byte ∷ bytes) h = absurd (omega arith)
