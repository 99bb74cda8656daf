-- Texts, cut into tokens a part at a time, from a point of a whole text on.
use Rattle.std.proofs.Common.{◌≡◌, ℕ, suc, ◌+◌, ◌-◌, ◌==◌, ◌&&◌, Bool, true, false, if◌then◌else◌, Some, List, [], ◌∷◌, ◌++◌, refl, ap, ap₂, sym, ◌∙◌, subst, take, drop, length, length-append, slice_get, append_assoc, arith}
use Rattle.std.specs.List.{prefix_len, list_all}
use Rattle.std.proofs.lemmas.Bool.Decides.{nat_tests}
use Rattle.std.proofs.lemmas.List.{drop-drop}
use Rattle.std.proofs.Math.Seq.{take-append_seam, drop-append_seam}
use Rattle.cm_lexer.specs.Bytes.{is_blank, is_word_byte, is_quotable, is_in_line}
use Rattle.cm_lexer.specs.Pieces.{after_quote, quoted_piece, is_directive, after_sign, piece_at}
use Rattle.cm_lexer.specs.Points.{after_byte, after}
use Rattle.cm_lexer.specs.Spelling.{slice_of}
use Rattle.cm_lexer.specs.Tokens.{onto, token_at, by_piece, scan_from}
use Rattle.cm_lexer.specs.declared.piece.Piece.TheVariants as piece
use Rattle.cm_lexer.specs.declared.point.Point.{Point}
use Rattle.cm_lexer.specs.declared.token.Scan.{Scan}
use Rattle.cm_lexer.specs.declared.token.Token.{Token}
use Rattle.cm_lexer.specs.declared.token.TokenKind.{TokenKind}
use Rattle.cm_lexer.specs.declared.token.TokenKind.TheVariants as kind
use Rattle.cm_lexer.proofs.Steps.{scan_some, onto_onto}

-- bytes that pass, before one that doesn't
pub run_len : (p : ℕ → Bool) (run rest : List ℕ) → list_all p run ≡ true → prefix_len p rest ≡ 0
    → prefix_len p (run ++ rest) ≡ length run
run_len p [] rest all none = none
run_len p (byte ∷ bytes) rest all none = by (λ h. run_len p bytes rest h none) (p byte) refl all
  where
    by : (list_all p bytes ≡ true → prefix_len p (bytes ++ rest) ≡ length bytes) → (b : Bool) → p byte ≡ b
        → (b && list_all p bytes) ≡ true → prefix_len p ((byte ∷ bytes) ++ rest) ≡ length (byte ∷ bytes)
    by next true e h = let more = next h in rw e (omega (arith, more))
    by next false e h = absurd (cc)

-- ---- points

-- the bytes of a whole text from a point on
pub record IsAt (whole : List ℕ) (p : Point) (bytes : List ℕ) : Type 0 where
  pub rest : drop p.at whole ≡ bytes

after_at : (bytes : List ℕ) (p : Point) → (after p bytes).at ≡ p.at + length bytes
after_at [] p = omega arith
after_at (byte ∷ bytes) p = after_at bytes (after_byte p byte) ∙ omega arith

after_append : (xs ys : List ℕ) (p : Point) → after p (xs ++ ys) ≡ after (after p xs) ys
after_append [] ys p = refl
after_append (x ∷ xs) ys p = after_append xs ys (after_byte p x)

pub at_after : {whole : List ℕ} {p : Point} (text rest : List ℕ) → IsAt whole p (text ++ rest)
    → IsAt whole (after p text) rest
at_after {whole} {p} text rest at = record {
  rest = ap (λ i. drop i whole) (after_at text p) ∙ sym (drop-drop (length text) p.at whole)
      ∙ ap (drop (length text)) at.rest ∙ drop-append_seam text rest;
}

-- the bytes of a token that stands there
pub token_slice : {whole : List ℕ} {p : Point} (k : TokenKind) (text rest : List ℕ) → IsAt whole p (text ++ rest)
    → slice_of whole (token_at k (length text) p) ≡ text
token_slice {whole} {p} k text rest at =
    let len : (p.at + length text) - p.at ≡ length text = omega arith in
    ap (λ n. take n (drop p.at whole)) len ∙ ap (take (length text)) at.rest ∙ take-append_seam text rest

-- ---- parts

-- the tokens of a text, which are as they have to be, and the rest that is cut behind it
pub record HasTokens (first later : Bool) (p : Point) (text rest : List ℕ) (Are : List Token → Type 0) : Type 0 where
  pub tokens : List Token
  pub scanned : scan_from first p (text ++ rest) ≡ onto tokens (scan_from later (after p text) rest)
  pub are : Are tokens

pub both : {first middle later : Bool} {p : Point} (text more : List ℕ) {rest : List ℕ} {P Q : List Token → Type 0}
    (R : List Token → Type 0) → HasTokens first middle p text (more ++ rest) P
    → HasTokens middle later (after p text) more rest Q
    → ((ys zs : List Token) → P ys → Q zs → R (ys ++ zs)) → HasTokens first later p (text ++ more) rest R
both {first} {middle} {later} {p} text more {rest} R one two make = record {
  tokens = one.tokens ++ two.tokens;
  scanned = ap (scan_from first p) (append_assoc text more rest) ∙ one.scanned ∙ ap (onto one.tokens) two.scanned
      ∙ onto_onto one.tokens two.tokens _
      ∙ ap (λ q. onto (one.tokens ++ two.tokens) (scan_from later q rest)) (sym (after_append text more p));
  are = make one.tokens two.tokens one.are two.are;
}

pub so_made : {first later : Bool} {p : Point} {text rest : List ℕ} {P : List Token → Type 0}
    (Q : List Token → Type 0)
    → HasTokens first later p text rest P → ((ys : List Token) → P ys → Q ys) → HasTokens first later p text rest Q
so_made Q one make = record { tokens = one.tokens; scanned = one.scanned; are = make one.tokens one.are }

-- no token
abbrev pub IsNone : List Token → Type 0
IsNone ys = ys ≡ []

onto_none : (s : Scan) → onto [] s ≡ s
onto_none s = refl

pub nothing : (first : Bool) (p : Point) (rest : List ℕ) → HasTokens first first p [] rest IsNone
nothing first p rest = record { tokens = []; scanned = sym (onto_none (scan_from first p rest)); are = refl }

-- a space at the front of a line, one behind a token, and the end of a line
pub first_space : (p : Point) (rest : List ℕ) → HasTokens true true p (32 ∷ []) rest IsNone
first_space p rest = record {
  tokens = [];
  scanned = scan_some true p 32 rest ∙ sym (onto_none _);
  are = refl;
}

pub space : (p : Point) (rest : List ℕ) → HasTokens false false p (32 ∷ []) rest IsNone
space p rest = record { tokens = []; scanned = scan_some false p 32 rest ∙ sym (onto_none _); are = refl }

pub line_end : (p : Point) (rest : List ℕ) → HasTokens false true p (10 ∷ []) rest IsNone
line_end p rest = record { tokens = []; scanned = scan_some false p 10 rest ∙ sym (onto_none _); are = refl }

-- ---- tokens

-- one token of this kind and these bytes
abbrev pub IsToken : List ℕ → TokenKind → List ℕ → Token → Type 0
IsToken whole k text y = (y.kind ≡ k) × (slice_of whole y ≡ text)

abbrev pub IsOne : List ℕ → TokenKind → List ℕ → List Token → Type 0
IsOne whole k text ys = (y : Token) × (ys ≡ y ∷ []) × IsToken whole k text y

take_all_of : (byte : ℕ) (bytes rest : List ℕ) → take (1 + length bytes) (byte ∷ (bytes ++ rest)) ≡ byte ∷ bytes
take_all_of byte bytes rest =
    let e : 1 + length bytes ≡ suc (length bytes) = omega arith in
    rw e (ap (λ (l : List ℕ). byte ∷ l) (take-append_seam bytes rest))

drop_all_of : (byte : ℕ) (bytes rest : List ℕ) → drop (1 + length bytes) (byte ∷ (bytes ++ rest)) ≡ rest
drop_all_of byte bytes rest =
    let e : 1 + length bytes ≡ suc (length bytes) = omega arith in rw e (drop-append_seam bytes rest)

-- a piece that is a token
pub one_token : {whole : List ℕ} {p : Point} (first : Bool) (k : TokenKind) (byte : ℕ) (bytes rest : List ℕ)
    → IsAt whole p ((byte ∷ bytes) ++ rest) → piece_at first byte (bytes ++ rest) ≡ piece.Token k (1 + length bytes)
    → HasTokens first false p (byte ∷ bytes) rest (IsOne whole k (byte ∷ bytes))
one_token {whole} {p} first k byte bytes rest at is =
    let len : 1 + length bytes ≡ length (byte ∷ bytes) = omega arith in record {
      tokens = token_at k (length (byte ∷ bytes)) p ∷ [];
      scanned = scan_some first p byte (bytes ++ rest)
          ∙ ap (by_piece scan_from first p (byte ∷ (bytes ++ rest))) is
          ∙ ap (λ l. onto (token_at k (1 + length bytes) p ∷ [])
          (scan_from false (after p l) (drop (1 + length bytes) (byte ∷ (bytes ++ rest)))))
          (take_all_of byte bytes rest)
          ∙ ap (λ l. onto (token_at k (1 + length bytes) p ∷ []) (scan_from false (after p (byte ∷ bytes)) l))
          (drop_all_of byte bytes rest)
          ∙ ap (λ n. onto (token_at k n p ∷ []) (scan_from false (after p (byte ∷ bytes)) rest)) len;
      are = (token_at k (length (byte ∷ bytes)) p, refl, (refl, token_slice k (byte ∷ bytes) rest at));
    }

word_no_blank : (byte : ℕ) → is_word_byte byte ≡ true → is_blank byte ≡ false
word_no_blank byte h = grind (arith, nat_tests)

-- a word that isn't empty, before a byte that belongs to none
abbrev pub IsWordText : List ℕ → Type 0
IsWordText [] = ⊥
IsWordText (byte ∷ bytes) = (is_word_byte byte ≡ true) × (list_all is_word_byte bytes ≡ true)

pub word_token : {whole : List ℕ} {p : Point} (first : Bool) (word rest : List ℕ) → IsAt whole p (word ++ rest)
    → IsWordText word → prefix_len is_word_byte rest ≡ 0
    → HasTokens first false p word rest (IsOne whole kind.Word word)
word_token first [] rest at w none = absurd w
word_token first (byte ∷ bytes) rest at w none =
    let blank = word_no_blank byte w.0 in
    let len = run_len is_word_byte bytes rest w.1 none in
    let front : piece_at first byte (bytes ++ rest) ≡ piece.Token kind.Word
    (1 + prefix_len is_word_byte (bytes ++ rest)) =
    rw (blank, w.0) refl in
    one_token first kind.Word byte bytes rest at (front ∙ ap (λ n. piece.Token kind.Word (1 + n)) len)

pub colon_token : {whole : List ℕ} {p : Point} (rest : List ℕ) → IsAt whole p (58 ∷ rest)
    → HasTokens false false p (58 ∷ []) rest (IsOne whole kind.Colon (58 ∷ []))
colon_token rest at = one_token false kind.Colon 58 [] rest at refl

pub close_token : {whole : List ℕ} {p : Point} (rest : List ℕ) → IsAt whole p (41 ∷ rest)
    → HasTokens false false p (41 ∷ []) rest (IsOne whole kind.Close (41 ∷ []))
close_token rest at = one_token false kind.Close 41 [] rest at refl

-- an opening parenthesis before a byte that doesn't make a comment of it
pub open_token : {whole : List ℕ} {p : Point} (byte : ℕ) (rest : List ℕ) → (byte == 42) ≡ false
    → IsAt whole p (40 ∷ (byte ∷ rest))
    → HasTokens false false p (40 ∷ []) (byte ∷ rest) (IsOne whole kind.Open (40 ∷ []))
open_token byte rest h at =
    let is : piece_at false 40 (byte ∷ rest) ≡ piece.Token kind.Open 1 = rw h refl in
    one_token false kind.Open 40 [] (byte ∷ rest) at is

get_behind : (xs ys : List ℕ) (y : ℕ) → slice_get (xs ++ y ∷ ys) (length xs) ≡ Some y
get_behind [] ys y = refl
get_behind (x ∷ xs) ys y = get_behind xs ys y

-- a quoted text
pub quoted_token : {whole : List ℕ} {p : Point} (first : Bool) (inside rest : List ℕ)
    → IsAt whole p ((34 ∷ (inside ++ 34 ∷ [])) ++ rest) → list_all is_quotable inside ≡ true
    → HasTokens first false p (34 ∷ (inside ++ 34 ∷ [])) rest (IsOne whole kind.Quoted (34 ∷ (inside ++ 34 ∷ [])))
quoted_token first inside rest at h =
    let bytes = (inside ++ 34 ∷ []) ++ rest in
    let all : bytes ≡ inside ++ 34 ∷ rest = append_assoc inside (34 ∷ []) rest in
    let len : prefix_len is_quotable bytes ≡ length inside = ap (prefix_len is_quotable) all
    ∙ run_len is_quotable inside (34 ∷ rest) h refl in
    let end : slice_get bytes (length inside) ≡ Some 34 = ap (λ l. slice_get l (length inside)) all
    ∙ get_behind inside rest 34 in
    let more : 2 + length inside ≡ 1 + length (inside ++ 34 ∷ []) = rw length-append (omega arith) in
    let quote : after_quote bytes ≡ piece.Token kind.Quoted (2 + length inside) =
    ap (λ n. quoted_piece n (slice_get bytes n)) len ∙ ap (quoted_piece (length inside)) end in
    one_token first kind.Quoted 34 (inside ++ 34 ∷ []) rest at (quote ∙ ap (piece.Token kind.Quoted) more)

-- ---- directives

-- a directive's token, and that of its rest
abbrev pub AreTwo : List ℕ → List ℕ → List ℕ → List Token → Type 0
AreTwo whole word tail ys =
    (y z : Token) × (ys ≡ y ∷ z ∷ []) × IsToken whole kind.Directive (35 ∷ word) y × IsToken whole kind.Rest tail z

-- the line of a directive, with a rest that doesn't go on with its word
pub directive_tokens : {whole : List ℕ} {p : Point} (word tail rest : List ℕ)
    → IsAt whole p ((35 ∷ (word ++ (tail ++ 10 ∷ []))) ++ rest) → list_all is_word_byte word ≡ true
    → is_directive word ≡ true → prefix_len is_word_byte (tail ++ 10 ∷ rest) ≡ 0 → list_all is_in_line tail ≡ true
    → HasTokens true true p (35 ∷ (word ++ (tail ++ 10 ∷ []))) rest (AreTwo whole word tail)
directive_tokens {whole} {p} word tail rest at all is none line =
    let bytes = word ++ (tail ++ 10 ∷ rest) in
    let split : (35 ∷ (word ++ (tail ++ 10 ∷ []))) ++ rest ≡ 35 ∷ bytes =
    ap (λ (l : List ℕ). 35 ∷ l) (append_assoc word (tail ++ 10 ∷ []) rest
    ∙ ap (λ (l : List ℕ). word ++ l) (append_assoc tail (10 ∷ []) rest)) in
    let len : prefix_len is_word_byte bytes ≡ length word = run_len is_word_byte word (tail ++ 10 ∷ rest) all none in
    let front : take (prefix_len is_word_byte bytes) bytes ≡ word = ap (λ n. take n bytes) len
    ∙ take-append_seam word (tail ++ 10 ∷ rest) in
    let back : drop (prefix_len is_word_byte bytes) bytes ≡ tail ++ 10 ∷ rest = ap (λ n. drop n bytes) len
    ∙ drop-append_seam word (tail ++ 10 ∷ rest) in
    let far : prefix_len is_in_line (tail ++ 10 ∷ rest) ≡ length tail =
    run_len is_in_line tail (10 ∷ rest) line refl in
    let go : is_directive (take (prefix_len is_word_byte bytes) bytes) ≡ true = ap is_directive front ∙ is in
    let found : after_sign true bytes ≡ piece.Directive (1 + length word) (length tail) =
    ap (λ b. if b then piece.Directive (1 + prefix_len is_word_byte bytes)
    (prefix_len is_in_line (drop (prefix_len is_word_byte bytes) bytes)) else piece.Wrong 0) go
    ∙ ap₂ (λ n m. piece.Directive (1 + n) m) len (ap (prefix_len is_in_line) back ∙ far) in
    let one : IsAt whole p ((35 ∷ word) ++ (tail ++ 10 ∷ rest)) = subst (IsAt whole p) split at in
    let next = at_after (35 ∷ word) (tail ++ 10 ∷ rest) one in
    let q = after p (35 ∷ word) in
    let number : 1 + length word ≡ length (35 ∷ word) = omega arith in
    record {
      tokens = token_at kind.Directive (length (35 ∷ word)) p ∷ token_at kind.Rest (length tail) q ∷ [];
      scanned = ap (scan_from true p) split ∙ scan_some true p 35 bytes
          ∙ ap (by_piece scan_from true p (35 ∷ bytes)) found
          ∙ ap₂ (λ l m. onto (token_at kind.Directive (1 + length word) p ∷ [])
          (onto (token_at kind.Rest (length tail) (after p l) ∷ [])
          (scan_from false (after (after p l) (take (length tail) m)) (drop (length tail) m))))
          (take_all_of 35 word (tail ++ 10 ∷ rest)) (drop_all_of 35 word (tail ++ 10 ∷ rest))
          ∙ ap₂ (λ l m. onto (token_at kind.Directive (1 + length word) p ∷ [])
          (onto (token_at kind.Rest (length tail) q ∷ []) (scan_from false (after q l) m)))
          (take-append_seam tail (10 ∷ rest)) (drop-append_seam tail (10 ∷ rest))
          ∙ ap (λ s. onto (token_at kind.Directive (1 + length word) p ∷ [])
          (onto (token_at kind.Rest (length tail) q ∷ []) s)) (scan_some false (after q tail) 10 rest)
          ∙ ap (λ n. onto (token_at kind.Directive n p ∷ [])
          (onto (token_at kind.Rest (length tail) q ∷ []) (scan_from true (after_byte (after q tail) 10) rest)))
          number
          ∙ onto_onto (token_at kind.Directive (length (35 ∷ word)) p ∷ []) (token_at kind.Rest (length tail) q ∷ [])
          (scan_from true (after_byte (after q tail) 10) rest)
          ∙ ap (λ r. onto (token_at kind.Directive (length (35 ∷ word)) p ∷ token_at kind.Rest (length tail) q ∷ [])
          (scan_from true r rest)) (sym (behind word tail p));
      are = (
        token_at kind.Directive (length (35 ∷ word)) p,
        token_at kind.Rest (length tail) q,
        refl,
        (refl, token_slice kind.Directive (35 ∷ word) (tail ++ 10 ∷ rest) one),
        (refl, token_slice kind.Rest tail (10 ∷ rest) next),
      );
    }
  where
    behind : (word tail : List ℕ) (p : Point)
        → after p (35 ∷ (word ++ (tail ++ 10 ∷ []))) ≡ after_byte (after (after p (35 ∷ word)) tail) 10
    behind word tail p =
        after_append (35 ∷ word) (tail ++ 10 ∷ []) p ∙ after_append tail (10 ∷ []) (after p (35 ∷ word))
