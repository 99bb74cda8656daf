-- The piece at the front of a text is spelled as its kind asks.
use Rattle.std.proofs.Common.{◌≡◌, ◌+◌, ℕ, suc, Bool, true, false, List, [], ◌∷◌, ◌++◌, Option, None, Some, refl, ap, ap₂, ◌∙◌, arith, if◌then◌else◌, ◌==◌, ◌&&◌, take, drop, slice_get}
use Rattle.std.specs.List.{prefix_len, list_all}
use Rattle.std.proofs.Math.Seq.{take-suc}
use Rattle.std.proofs.lemmas.Option.{slice_get_within, slice_get-get_or}
use Rattle.std.proofs.lemmas.Bool.Decides.{nat_tests}
use Rattle.cm_lexer.specs.Bytes.{is_blank, is_word_byte, is_quotable, is_in_line}
use Rattle.cm_lexer.specs.Pieces.{comment_len, comment_piece, after_open, quoted_piece, is_directive, after_sign, piece_at}
use Rattle.cm_lexer.specs.Spelling.{IsSpelled}
use Rattle.cm_lexer.specs.declared.piece.Piece.{Piece}
use Rattle.cm_lexer.specs.declared.piece.Piece.TheVariants as piece
use Rattle.cm_lexer.specs.declared.token.TokenKind.TheVariants as kind

-- the tokens of a piece at the front of a text
abbrev pub PieceSpelled : List ℕ → Piece → Type 0
PieceSpelled text (piece.Gap len) = Unit {0}
PieceSpelled text (piece.Token k len) = IsSpelled k (take len text)
PieceSpelled text (piece.Directive len more) =
    IsSpelled kind.Directive (take len text) × IsSpelled kind.Rest (take more (drop len text))
PieceSpelled text (piece.Wrong len) = Unit {0}

-- a choice is as each of its sides is, where the test takes it
by_test : (text : List ℕ) (b : Bool) (p q : Piece) → (b ≡ true → PieceSpelled text p) → PieceSpelled text q
    → PieceSpelled text (if b then p else q)
by_test text true p q f g = f refl
by_test text false p q f g = g

-- the bytes of a run pass its test
run_passes : (p : ℕ → Bool) (xs : List ℕ) → list_all p (take (prefix_len p xs) xs) ≡ true
run_passes p [] = refl
run_passes p (x ∷ xs) =
    let Is : Bool → Type 0 = λ v. p x ≡ v → list_all p (take (prefix_len p (x ∷ xs)) (x ∷ xs)) ≡ true in
    let cases : (v : Bool) → Is v = λ v. elim v as Is [
      | true ↦ λ e. let one : prefix_len p (x ∷ xs) ≡ suc (prefix_len p xs) = rw e (omega arith) in
          rw (one, e) (run_passes p xs)
      | false ↦ λ e. rw e refl
    ] in cases (p x) refl

take_more : (n b : ℕ) (bytes : List ℕ) → take (1 + n) (b ∷ bytes) ≡ b ∷ take n bytes
take_more n b bytes = let e : 1 + n ≡ suc n = omega arith in rw e refl

drop_more : (n b : ℕ) (bytes : List ℕ) → drop (1 + n) (b ∷ bytes) ≡ drop n bytes
drop_more n b bytes = let e : 1 + n ≡ suc n = omega arith in rw e refl

word_spelled : (byte : ℕ) (bytes : List ℕ) → is_word_byte byte ≡ true
    → list_all is_word_byte (take (1 + prefix_len is_word_byte bytes) (byte ∷ bytes)) ≡ true
word_spelled byte bytes h =
    rw (take_more (prefix_len is_word_byte bytes) byte bytes, h) (run_passes is_word_byte bytes)

same_byte : (a b : ℕ) → (a == b) ≡ true → a ≡ b
same_byte a b h = grind (arith, nat_tests)

quoted_spelled : (byte : ℕ) (bytes : List ℕ) (end : Option ℕ) → (byte == 34) ≡ true
    → slice_get bytes (prefix_len is_quotable bytes) ≡ end
    → PieceSpelled (byte ∷ bytes) (quoted_piece (prefix_len is_quotable bytes) end)
quoted_spelled byte bytes None first h = tt
quoted_spelled byte bytes (Some last) first h =
    let len = prefix_len is_quotable bytes in
    let within = slice_get_within bytes len last h in
    by_test (byte ∷ bytes) (last == 34) _ _ (λ closes.
    let ends : take (suc len) bytes ≡ take len bytes ++ 34 ∷ [] =
    let get = slice_get-get_or bytes len 0 within in
    take-suc bytes len 0 within ∙ ap (λ (b : ℕ). take len bytes ++ b ∷ []) (cc (get, h, same_byte last 34 closes)) in
    let far : 2 + len ≡ suc (suc len) = omega arith in
    let is : take (2 + len) (byte ∷ bytes) ≡ 34 ∷ (take len bytes ++ 34 ∷ []) =
    rw far (ap₂ (λ (b : ℕ) (xs : List ℕ). b ∷ xs) (same_byte byte 34 first) ends) in
    (take len bytes, is, run_passes is_quotable bytes)) tt

sign_spelled : (first : Bool) (byte : ℕ) (bytes : List ℕ) → (byte == 35) ≡ true
    → PieceSpelled (byte ∷ bytes) (after_sign first bytes)
sign_spelled first byte bytes h =
    let len = prefix_len is_word_byte bytes in
    let word = take len bytes in
    by_test (byte ∷ bytes) (first && is_directive word) _ _ (λ is.
    let directive : is_directive word ≡ true = grind (arith, nat_tests) in
    let text : take (1 + len) (byte ∷ bytes) ≡ 35 ∷ word =
    take_more len byte bytes ∙ ap (λ (b : ℕ). b ∷ word) (same_byte byte 35 h) in
    ((word, text, directive), rw (drop_more len byte bytes) (run_passes is_in_line (drop len bytes)))) tt

comment_spelled : (text : List ℕ) (o : Option ℕ) → PieceSpelled text (comment_piece o)
comment_spelled text None = tt
comment_spelled text (Some len) = tt

open_spelled : (byte : ℕ) (bytes : List ℕ) → (byte == 40) ≡ true → PieceSpelled (byte ∷ bytes) (after_open bytes)
open_spelled byte [] h = ap (λ (b : ℕ). b ∷ []) (same_byte byte 40 h)
open_spelled byte (b ∷ bytes) h =
    by_test (byte ∷ (b ∷ bytes)) (b == 42) _ _ (λ is. comment_spelled (byte ∷ (b ∷ bytes)) (comment_len 1 bytes))
    (ap (λ (c : ℕ). c ∷ []) (same_byte byte 40 h))

pub piece_spelled : (first : Bool) (byte : ℕ) (bytes : List ℕ) → PieceSpelled (byte ∷ bytes) (piece_at first byte bytes)
piece_spelled first byte bytes =
    let text = byte ∷ bytes in
    by_test text (is_blank byte) _ _ (λ is. tt)
    (by_test text (is_word_byte byte) _ _ (λ is. word_spelled byte bytes is)
    (by_test text (byte == 34) _ _ (λ is. quoted_spelled byte bytes _ is refl)
    (by_test text (byte == 35) _ _ (λ is. sign_spelled first byte bytes is)
    (by_test text (byte == 40) _ _ (λ is. open_spelled byte bytes is)
    (by_test text (byte == 41) _ _ (λ is. ap (λ (b : ℕ). b ∷ []) (same_byte byte 41 is))
    (by_test text (byte == 58) _ _ (λ is. ap (λ (b : ℕ). b ∷ []) (same_byte byte 58 is)) tt))))))
