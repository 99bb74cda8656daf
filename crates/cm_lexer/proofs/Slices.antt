-- The tokens of a text stand in order, and are slices of it.
use Rattle.std.proofs.Common.{◌≡◌, ◌≤◌, ◌+◌, ◌-◌, ℕ, zero, suc, Bool, true, List, [], ◌∷◌, length, refl, sym, ap, subst, ◌∙◌, arith, take, drop, length-drop, Result, Ok, Err, IfOk}
use Rattle.std.proofs.lemmas.List.{drop-drop}
use Rattle.cm_lexer.specs.Points.{start, after_byte, after}
use Rattle.cm_lexer.specs.Pieces.{piece_at, FitsIn}
use Rattle.cm_lexer.specs.Tokens.{Scanning, token_at, by_piece, scan_pieces, scan_from, scan_of}
use Rattle.cm_lexer.specs.Spelling.{AreInOrder, AreSlices, IsSpelled, slice_of}
use Rattle.cm_base.specs.declared.fault.NoMemory.{NoMemory}
use Rattle.cm_lexer.specs.declared.token.Scan.{Scan}
use Rattle.cm_lexer.specs.declared.point.Point.{Point}
use Rattle.cm_lexer.specs.declared.token.Token.{Token}
use Rattle.cm_lexer.specs.declared.token.TokenKind.{TokenKind}
use Rattle.cm_lexer.specs.declared.token.TokenKind.TheVariants as kind
use Rattle.cm_lexer.specs.declared.piece.Piece.{Piece}
use Rattle.cm_lexer.specs.declared.piece.Piece.TheVariants as piece
use Rattle.cm_lexer.proofs.Fitting.{piece_fits}
use Rattle.cm_lexer.proofs.Spelled.{PieceSpelled, piece_spelled}

-- in order from a place on, and slices of the text
pub record AreGood (text : List ℕ) (from : ℕ) (tokens : List Token) : Type 0 where
  pub order : AreInOrder from (length text) tokens
  pub slices : AreSlices text tokens

-- the bytes of a text from this place on
pub record IsAt (text : List ℕ) (p : Point) (bytes : List ℕ) : Type 0 where
  pub inside : p.at ≤ length text
  pub rest : drop p.at text ≡ bytes

after_at : (bytes : List ℕ) (n : ℕ) (p : Point) → n ≤ length bytes → (after p (take n bytes)).at ≡ p.at + n
after_at bytes zero p h = omega arith
after_at [] (suc n) p h = absurd (omega arith)
after_at (b ∷ bytes) (suc n) p h = after_at bytes n (after_byte p b) (omega arith) ∙ omega arith

passes : (text : List ℕ) (p : Point) (bytes : List ℕ) (n : ℕ) → IsAt text p bytes → n ≤ length bytes
    → IsAt text (after p (take n bytes)) (drop n bytes)
passes text p bytes n at h =
    let far = after_at bytes n p h in
    let len : length bytes ≡ length text - p.at = ap length (sym at.rest) ∙ length-drop p.at text in
    record {
      inside = omega (arith, far, len, at.inside);
      rest = ap (λ i. drop i text) far ∙ sym (drop-drop n p.at text) ∙ ap (drop n) at.rest;
    }

earlier : (text : List ℕ) (from to : ℕ) (tokens : List Token) → from ≤ to → AreGood text to tokens
    → AreGood text from tokens
earlier text from to [] h good = record { order = omega (arith, h, good.order); slices = good.slices }
earlier text from to (token ∷ tokens) h good = record {
  order = (omega (arith, h, good.order.0), good.order.1, good.order.2);
  slices = good.slices;
}

one_more : (text : List ℕ) (p : Point) (bytes : List ℕ) (k : TokenKind) (n : ℕ) (tokens : List Token)
    → IsAt text p bytes
    → n ≤ length bytes → IsSpelled k (take n bytes) → AreGood text (after p (take n bytes)).at tokens
    → AreGood text p.at (token_at k n p ∷ tokens)
one_more text p bytes k n tokens at h spelled good =
    let len : (p.at + n) - p.at ≡ n = omega arith in
    let slice : slice_of text (token_at k n p) ≡ take n bytes = rw (len, at.rest) refl in
    record {
      order = (
        omega arith,
        omega arith,
        subst (λ i. AreInOrder i (length text) tokens)
            (after_at bytes n p h) good.order,
      );
      slices = (subst (IsSpelled k) (sym slice) spelled, good.slices);
    }

-- those of the piece at the front, and those behind it
by_piece_good : (text : List ℕ) (scan : Scanning) (first : Bool) (p : Point) (bytes : List ℕ) (piece : Piece)
    → IsAt text p bytes
    → FitsIn (length bytes) piece → PieceSpelled bytes piece
    → ((first : Bool) (q : Point) (rest : List ℕ) → IsAt text q rest → AreGood text q.at (scan first q rest).tokens)
    → AreGood text p.at (by_piece scan first p bytes piece).tokens
by_piece_good text scan first p bytes (piece.Gap len) at fits spelled all =
    earlier text p.at _ _ (omega (arith, after_at bytes len p fits.1)) (all _ _ _ (passes text p bytes len at fits.1))
by_piece_good text scan first p bytes (piece.Token k len) at fits spelled all =
    one_more text p bytes k len _ at fits.1 spelled (all _ _ _ (passes text p bytes len at fits.1))
by_piece_good text scan first p bytes (piece.Directive len more) at fits spelled all =
    let here : len ≤ length bytes = omega (arith, fits.1) in
    let there : more ≤ length (drop len bytes) = omega (arith, fits.1, length-drop len bytes) in
    let next = passes text p bytes len at here in
    one_more text p bytes kind.Directive len _ at here spelled.0
    (one_more text _ (drop len bytes) kind.Rest more _ next there spelled.1
    (all _ _ _ (passes text _ (drop len bytes) more next there)))
by_piece_good text scan first p bytes (piece.Wrong len) at fits spelled all =
    record { order = at.inside; slices = tt }

pieces_good : (text : List ℕ) (n : ℕ) (first : Bool) (p : Point) (bytes : List ℕ) → IsAt text p bytes
    → AreGood text p.at (scan_pieces n first p bytes).tokens
pieces_good text zero first p bytes at = record { order = at.inside; slices = tt }
pieces_good text (suc n) first p [] at = record { order = at.inside; slices = tt }
pieces_good text (suc n) first p (byte ∷ bytes) at =
    by_piece_good text (scan_pieces n) first p (byte ∷ bytes) (piece_at first byte bytes) at
    (subst (λ m. FitsIn m (piece_at first byte bytes)) (omega arith) (piece_fits first byte bytes))
    (piece_spelled first byte bytes) (λ first q rest next. pieces_good text n first q rest next)

-- the tokens of a whole text
pub scan_good : (text : List ℕ) → AreGood text 0 (scan_of text).tokens
unfolding scan_from
scan_good text = pieces_good text (length text) true start text (record { inside = omega arith; rest = refl })

-- what a scan gives
pub scan_slices : (text : List ℕ) (r : Result Scan NoMemory) → IfOk r (λ scan. scan ≡ scan_of text)
    → IfOk r (λ scan. AreSlices text scan.tokens)
scan_slices text (Ok scan) is = subst (λ (s : Scan). AreSlices text s.tokens) (sym is) (scan_good text).slices
scan_slices text (Err e) is = tt
