-- The one cutting of a text.
use Rattle.std.proofs.Common.{◌≡◌, ℕ, zero, suc, ◌+◌, ◌-◌, ◌≤◌, List, [], ◌∷◌, ◌++◌, length, length-append, take, drop, take_at, drop_at, Option, Some, None, Result, Ok, Err, refl, sym, ap, ap₂, ◌∙◌, arith, subst, false, nat_lt, inl, inr}
use Rattle.std.proofs.lemmas.Bool.{cases_Bool, le-ltb}
use Rattle.std.proofs.lemmas.List.{length-take-le, take-append-drop}
use Rattle.std.specs.List.{fold}
use Rattle.cm_base.specs.declared.diag.Diag.{Diag}
use Rattle.sml_lexer.specs.declared.lexeme.Lexeme.{Lexeme}
use Rattle.sml_lexer.specs.declared.lexeme.LexemeKind.{LexemeKind}
use Rattle.sml_lexer.specs.declared.place.Point.{Point}
use Rattle.sml_lexer.specs.declared.front.Front.{Front}
use Rattle.sml_lexer.specs.declared.front.Front.TheVariants as at_front
use Rattle.sml_lexer.specs.Fronts.{front, TakesWithin}
use Rattle.sml_lexer.specs.Lexing.{after_byte, onto, front_and_rest, lexemes_after, lexemes_of}
use Rattle.sml_lexer.specs.Cuttings.{Piece, front_of, IsCutting, placed_piece, placed, IsCutInOneWay, PiecesGiveBack, LexemesAreCut, CutTextIsLexed}
use Rattle.sml_lexer.proofs.LexingLemmas.{rest_of, lexemes-front}
use Rattle.sml_lexer.proofs.FrontsLemmas.{front-within}

same_len : (j k : Option LexemeKind) (m n : ℕ) → front_of j m ≡ front_of k n → m ≡ n
same_len None None m n e = cc
same_len None (Some k) m n e = absurd cc
same_len (Some j) None m n e = absurd cc
same_len (Some j) (Some k) m n e = cc

same_kind : (j k : Option LexemeKind) (m n : ℕ) → front_of j m ≡ front_of k n → j ≡ k
same_kind None None m n e = refl
same_kind None (Some k) m n e = absurd cc
same_kind (Some j) None m n e = absurd cc
same_kind (Some j) (Some k) m n e = cc

-- the bytes of a piece that begins a text, and the rest
bytes_of : (bytes rest text : List ℕ) → text ≡ bytes ++ rest → bytes ≡ take (length bytes) text
bytes_of bytes rest text e = rw e (sym (take_at bytes rest (length bytes) refl))

rest_is : (bytes rest text : List ℕ) → text ≡ bytes ++ rest → rest ≡ drop (length bytes) text
rest_is bytes rest text e = rw e (sym (drop_at bytes rest (length bytes) refl))

not_empty : (p : Piece) (ps : List Piece) (text : List ℕ) → text ≡ [] → IsCutting (p ∷ ps) text → [] ≡ p ∷ ps
not_empty p ps text e (rest, split, some, here, more) =
    let none : 0 ≡ length p.bytes + length rest = ap length (sym e ∙ split) ∙ length-append p.bytes rest in absurd (omega arith)

pub one_way : IsCutInOneWay
one_way text [] [] h k = refl
one_way text [] (q ∷ qs) h k = not_empty q qs text h k
one_way text (p ∷ ps) [] h k = sym (not_empty p ps text k h)
one_way text (p ∷ ps) (q ∷ qs) (rest, split, some, here, more) (rest', split', some', here', more') =
    let fronts : front_of p.kind (length p.bytes) ≡ front_of q.kind (length q.bytes) = sym here ∙ here' in
    let len : length p.bytes ≡ length q.bytes = same_len p.kind q.kind _ _ fronts in
    let kind : p.kind ≡ q.kind = same_kind p.kind q.kind _ _ fronts in
    let bytes : p.bytes ≡ q.bytes =
    bytes_of p.bytes rest text split ∙ ap (λ (n : ℕ). take n text) len ∙ sym (bytes_of q.bytes rest' text split') in
    let rests : rest ≡ rest' =
    rest_is p.bytes rest text split ∙ ap (λ (n : ℕ). drop n text) len ∙ sym (rest_is q.bytes rest' text split') in
    let first : p ≡ q = ap₂ (λ (bs : List ℕ) (k : Option LexemeKind). record { bytes = bs; kind = k }) bytes kind in
    let others : ps ≡ qs = one_way rest ps qs more (subst (IsCutting qs) (sym rests) more') in
    ap₂ (λ (x : Piece) (xs : List Piece). x ∷ xs) first others

pub give_back : PiecesGiveBack
give_back text [] h = sym h
give_back text (p ∷ ps) (rest, split, some, here, more) =
    ap (λ (xs : List ℕ). p.bytes ++ xs) (give_back rest ps more) ∙ sym split

-- the lexemes that a piece and the rest have
with_piece : (kind : Option LexemeKind) (file : List ℕ) (at : Point) (len : ℕ) (rest : ℕ → Result (List Lexeme) Diag) (lexemes : List Lexeme)
    → rest (len - 1) ≡ Ok lexemes → front_and_rest file at (front_of kind len) rest ≡ Ok (placed_piece kind at lexemes)
with_piece None file at len rest lexemes e = e
with_piece (Some kind) file at len rest lexemes e = ap (onto (record { kind = kind; line = at.line; col = at.col })) e

-- a text that has a cutting is lexed so
lexed_from : (file : List ℕ) (at : Point) (text : List ℕ) (ps : List Piece) → IsCutting ps text → lexemes_after file 0 at text ≡ Ok (placed at ps)
lexed_from file at text [] h = ap (lexemes_after file 0 at) h
lexed_from file at text (p ∷ ps) (rest, split, some, here, more) =
    let n = length p.bytes in
    let whole : length text ≡ n + length rest = ap length split ∙ length-append p.bytes rest in
    let next : n - 1 + 1 ≡ n = omega arith in
    let after : rest_of file at text (n - 1 + 1) ≡ Ok (placed (fold after_byte at p.bytes) ps) =
    ap (rest_of file at text) next
    ∙ ap₂ (λ (bs cs : List ℕ). lexemes_after file 0 (fold after_byte at bs) cs)
    (sym (bytes_of p.bytes rest text split)) (sym (rest_is p.bytes rest text split))
    ∙ lexed_from file (fold after_byte at p.bytes) rest ps more in
    lexemes-front file at text (omega arith)
    ∙ ap (λ (f : Front). front_and_rest file at f (λ passed. rest_of file at text (passed + 1))) here
    ∙ with_piece p.kind file at n (λ passed. rest_of file at text (passed + 1)) (placed (fold after_byte at p.bytes) ps) after

-- a text has a cutting whose lexemes, from a place on, are these
abbrev HasCutting : Point → List ℕ → List Lexeme → Type 0
HasCutting at text lexemes = (ps : List Piece) × IsCutting ps text × (lexemes ≡ placed at ps)

-- one piece more in front
cut_piece : (kind : Option LexemeKind) (at : Point) (text : List ℕ) (n : ℕ) (lexemes : List Lexeme) → front text ≡ front_of kind n
    → 1 ≤ n → n ≤ length text → HasCutting (fold after_byte at (take n text)) (drop n text) lexemes
    → HasCutting at text (placed_piece kind at lexemes)
cut_piece kind at text n lexemes here some within (ps, cutting, same) =
    let len : length (take n text) ≡ n = length-take-le n text within in
    let piece : Piece = record { bytes = take n text; kind = kind } in
    let split : text ≡ take n text ++ drop n text = sym (take-append-drop n text) in
    let front_is : front text ≡ front_of kind (length (take n text)) = here ∙ ap (front_of kind) (sym len) in
    (piece ∷ ps, (drop n text, split, omega arith, front_is, cutting), ap (placed_piece kind at) same)

-- a lexeme that was put before others
onto_ok : (one : Lexeme) (rest : Result (List Lexeme) Diag) (lexemes : List Lexeme) → onto one rest ≡ Ok lexemes
    → (ls : List Lexeme) × (rest ≡ Ok ls) × (lexemes ≡ one ∷ ls)
onto_ok one (Ok ls) lexemes e = (ls, refl, cc)
onto_ok one (Err diag) lexemes e = absurd cc

-- what is lexed after what stands at the front
after_front : (f : Front) (file : List ℕ) (at : Point) (text : List ℕ) (lexemes : List Lexeme) (rest : ℕ → Result (List Lexeme) Diag)
    → front text ≡ f → TakesWithin f (length text)
    → ((n : ℕ) → 1 ≤ n → (ls : List Lexeme) → rest (n - 1) ≡ Ok ls → HasCutting (fold after_byte at (take n text)) (drop n text) ls)
    → front_and_rest file at f rest ≡ Ok lexemes → HasCutting at text lexemes
after_front (at_front.Gap n) file at text lexemes rest here (some, within) more e =
    cut_piece None at text n lexemes here some within (more n some lexemes e)
after_front (at_front.Lexeme kind n) file at text lexemes rest here (some, within) more e =
    let (ls, found, same) = onto_ok (record { kind = kind; line = at.line; col = at.col }) (rest (n - 1)) lexemes e in
    subst (HasCutting at text) (sym same) (cut_piece (Some kind) at text n ls here some within (more n some ls found))
after_front (at_front.Refused number) file at text lexemes rest here within more e = absurd cc

cut_after : (file : List ℕ) (passed : ℕ) (at : Point) (text : List ℕ) (lexemes : List Lexeme)
    → lexemes_after file passed at text ≡ Ok lexemes → HasCutting (fold after_byte at (take passed text)) (drop passed text) lexemes
cut_after file zero at [] lexemes e = ([], refl, cc)
cut_after file (suc passed) at [] lexemes e = ([], refl, cc)
cut_after file (suc passed) at (b ∷ bs) lexemes e = cut_after file passed (after_byte at b) bs lexemes e
cut_after file zero at (b ∷ bs) lexemes e =
    after_front (front (b ∷ bs)) file at (b ∷ bs) lexemes (λ passed. lexemes_after file passed (after_byte at b) bs) refl
    (front-within (b ∷ bs) (omega arith))
    (λ n some ls found. let next : suc (n - 1) ≡ n = omega arith in
    subst (λ (k : ℕ). HasCutting (fold after_byte at (take k (b ∷ bs))) (drop k (b ∷ bs)) ls) next
    (cut_after file (n - 1) (after_byte at b) bs ls found)) e

pub cut : LexemesAreCut
unfolding lexemes_of
cut file source lexemes e =
    elim (cases_Bool (nat_lt 1048576 (length source))) [
      | inl long ↦ let refused = rw long at e in absurd cc
      | inr fits ↦ cut_after file 0 (record { line = 1; col = 1 }) source lexemes (rw fits at e)
    ]

pub lexed : CutTextIsLexed
unfolding lexemes_of
lexed file source ps within h =
    let fits : nat_lt 1048576 (length source) ≡ false = le-ltb 1048576 (length source) within in
    rw fits (lexed_from file (record { line = 1; col = 1 }) source ps h)
