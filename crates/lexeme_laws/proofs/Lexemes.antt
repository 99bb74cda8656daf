-- All lexemes of a source are within their limits.
use Rattle.std.proofs.Common.{◌≡◌, ℕ, ◌==◌, nat_lt, List, [], ◌∷◌, ◌++◌, length, All, take, drop, Option, Some, None, sym, arith, inl, inr, subst}
use Rattle.std.specs.Prelude.{⊤}
use Rattle.std.specs.List.{fold, list_all}
use Rattle.std.proofs.lemmas.Bool.{and_parts, cases_Bool, ltb-true}
use Rattle.std.proofs.lemmas.Bool.Decides.{nat_tests}
use Rattle.std.proofs.lemmas.List.Elements.{All-nil, All-cons}
use Rattle.sml_lexer.specs.declared.lexeme.Lexeme.{Lexeme}
use Rattle.sml_lexer.specs.declared.lexeme.LexemeKind.{LexemeKind}
use Rattle.sml_lexer.specs.declared.lexeme.LexemeKind.TheVariants as kind
use Rattle.sml_lexer.specs.Classes.{first, is_blank}
use Rattle.sml_lexer.specs.Names.{word_len, mark_len}
use Rattle.sml_lexer.specs.Numbers.{begins_number}
use Rattle.sml_lexer.specs.Quoted.{begins_character}
use Rattle.sml_lexer.specs.Gaps.{comment_rest, begins_comment, comment_gap, comment_front}
use Rattle.sml_lexer.specs.Fronts.{mark_front, front}
use Rattle.sml_lexer.specs.Lexing.{after_byte}
use Rattle.sml_lexer.specs.Cuttings.{Piece, front_of, IsCutting, placed_piece, placed}
use Rattle.sml_lexer.proofs.CuttingsLemmas.{cut}
use Rattle.sml_lexer.proofs.FrontsLemmas.{character_has_word}
use Rattle.lexeme_laws.specs.Limits.{is_byte, AreBytes, IsWithinLimits, LexemesAreWithinLimits}
use Rattle.lexeme_laws.proofs.Words.{Shows, shows_kind, word_good, type_variable_good}
use Rattle.lexeme_laws.proofs.Constants.{number_good, string_good, character_good}

-- ---- what stands at the front of a text

comment_good : (len : Option ℕ) → Shows front_of (comment_gap len)
comment_good None = λ k m same. absurd (cc)
comment_good (Some n) = λ k m same. absurd (cc)

mark_good : (text : List ℕ) → Shows front_of (mark_front text)
unfolding mark_front
mark_good text = elim (cases_Bool (nat_lt 0 (mark_len text))) [ inl e ↦ rw e (shows_kind (kind.Reserved (take (mark_len text) text)) (mark_len text) tt) | inr e ↦ rw e (λ k m same. absurd (cc)) ]

front_good : (text : List ℕ) → AreBytes text → Shows front_of (front text)
unfolding front comment_front
front_good text are =
    elim (cases_Bool (is_blank (first text))) [
      | inl a ↦ rw a (λ k m same. absurd (cc))
      | inr a ↦ elim (cases_Bool (begins_comment text)) [
        | inl b ↦ rw (a, b) (comment_good (comment_rest 0 (drop 2 text)))
        | inr b ↦ elim (cases_Bool (begins_number text)) [
          | inl c ↦ rw (a, b, c) (number_good text)
          | inr c ↦ elim (cases_Bool (first text == 34)) [
            | inl d ↦ rw (a, b, c, d) (string_good text are)
            | inr d ↦ elim (cases_Bool (begins_character text)) [
              | inl e ↦ rw (a, b, c, d, e) (character_good text are (word_good text (character_has_word text e)))
              | inr e ↦ elim (cases_Bool (first text == 39)) [
                | inl f ↦
                    let prime : first text ≡ 39 = grind (arith, nat_tests) in
                    rw (a, b, c, d, e, f) (type_variable_good text prime)
                | inr f ↦ elim (cases_Bool (nat_lt 0 (word_len text))) [
                  | inl g ↦ rw (a, b, c, d, e, f, g) (word_good text (ltb-true 0 (word_len text) g))
                  | inr g ↦ rw (a, b, c, d, e, f, g) (mark_good text)
                ]
              ]
            ]
          ]
        ]
      ]
    ]

-- ---- all lexemes

abbrev Good : Lexeme → Type 0
Good x = IsWithinLimits x.kind

-- a piece that is a lexeme is within its limits
abbrev GoodKind : Option LexemeKind → Type 0
GoodKind None = ⊤
GoodKind (Some k) = IsWithinLimits k

abbrev GoodPieces : List Piece → Type 0
GoodPieces [] = Unit {0}
GoodPieces (p ∷ ps) = GoodKind p.kind × GoodPieces ps

behind : (bytes rest : List ℕ) → AreBytes (bytes ++ rest) → AreBytes rest
behind [] rest are = are
behind (b ∷ bytes) rest are = behind bytes rest (and_parts (is_byte b) (list_all is_byte (bytes ++ rest)) are).1

kind_good : (kind : Option LexemeKind) (n : ℕ) (text : List ℕ) → AreBytes text → front text ≡ front_of kind n → GoodKind kind
kind_good None n text are here = tt
kind_good (Some k) n text are here = front_good text are k n here

pieces_good : (ps : List Piece) (text : List ℕ) → AreBytes text → IsCutting ps text → GoodPieces ps
pieces_good [] text are cutting = tt
pieces_good (p ∷ ps) text are (rest, split, some, here, more) =
    let all : AreBytes (p.bytes ++ rest) = subst AreBytes split are in
    (kind_good p.kind (length p.bytes) text are here, pieces_good ps rest (behind p.bytes rest all) more)

piece_placed : (kind : Option LexemeKind) (line col : ℕ) (lexemes : List Lexeme) → GoodKind kind → All Good lexemes
    → All Good (placed_piece kind (record { line = line; col = col }) lexemes)
piece_placed None line col lexemes good all = all
piece_placed (Some k) line col lexemes good all =
    All-cons Good (record { kind = k; line = line; col = col }) lexemes good all

pieces_placed : (ps : List Piece) (line col : ℕ) → GoodPieces ps → All Good (placed (record { line = line; col = col }) ps)
pieces_placed [] line col good = All-nil Good
pieces_placed (p ∷ ps) line col good =
    piece_placed p.kind line col (placed (fold after_byte (record { line = line; col = col }) p.bytes) ps) good.0
    (pieces_placed ps (fold after_byte (record { line = line; col = col }) p.bytes).line
    (fold after_byte (record { line = line; col = col }) p.bytes).col good.1)

pub lexemes_within : LexemesAreWithinLimits
lexemes_within file source lexemes are lexed =
    let (ps, cutting, same) = cut file source lexemes lexed in
    subst (All Good) (sym same) (pieces_placed ps 1 1 (pieces_good ps source are cutting))
