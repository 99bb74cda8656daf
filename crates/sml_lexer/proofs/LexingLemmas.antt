-- The lexemes of a text, a step at a time.
use Rattle.std.proofs.Common.{◌≡◌, ℕ, zero, suc, ◌+◌, ◌-◌, ◌≤◌, List, [], ◌∷◌, ◌++◌, length, take, drop, Result, Ok, Err, refl, sym, ap, ◌∙◌, arith, append_assoc, subst}
use Rattle.std.specs.List.{fold}
use Rattle.cm_base.specs.declared.diag.Diag.{Diag}
use Rattle.cm_base.specs.declared.fault.Fault.{Fault}
use Rattle.cm_base.specs.declared.fault.Fault.TheVariants as fault
use Rattle.cm_base.specs.Calls.{Gives}
use Rattle.std.specs.Result.{IsErrAnd}
use Rattle.sml_lexer.specs.declared.lexeme.Lexeme.{Lexeme}
use Rattle.sml_lexer.specs.declared.place.Point.{Point}
use Rattle.sml_lexer.specs.declared.front.Front.{Front}
use Rattle.sml_lexer.specs.declared.front.Front.TheVariants as at_front
use Rattle.sml_lexer.specs.Fronts.{front}
use Rattle.sml_lexer.specs.Lexing.{after_byte, onto, front_and_rest, lexemes_after, TakesFront}

-- lexemes before those of the rest
abbrev pub before : List Lexeme → Result (List Lexeme) Diag → Result (List Lexeme) Diag
before done (Ok lexemes) = Ok (done ++ lexemes)
before done (Err diag) = Err diag

pub before-onto : (done : List Lexeme) (one : Lexeme) (rest : Result (List Lexeme) Diag) → before done (onto one rest) ≡ before (done ++ one ∷ []) rest
before-onto done one (Ok lexemes) = ap Ok (sym (append_assoc done (one ∷ []) lexemes))
before-onto done one (Err diag) = refl

-- the place after so many bytes, and the lexemes of the rest from there
abbrev pub rest_of : List ℕ → Point → List ℕ → ℕ → Result (List Lexeme) Diag
rest_of file at text n = lexemes_after file 0 (fold after_byte at (take n text)) (drop n text)

pub lexemes_after-drop : (file : List ℕ) (passed : ℕ) (at : Point) (text : List ℕ) → lexemes_after file passed at text ≡ rest_of file at text passed
lexemes_after-drop file zero at text = refl
lexemes_after-drop file (suc passed) at [] = refl
lexemes_after-drop file (suc passed) at (b ∷ bs) = lexemes_after-drop file passed (after_byte at b) bs

front_and_rest-same : (f : Front) (file : List ℕ) (at : Point) (r s : ℕ → Result (List Lexeme) Diag) → ((n : ℕ) → r n ≡ s n)
    → front_and_rest file at f r ≡ front_and_rest file at f s
front_and_rest-same (at_front.Gap len) file at r s same = same (len - 1)
front_and_rest-same (at_front.Lexeme kind len) file at r s same = ap (onto (record { kind = kind; line = at.line; col = at.col })) (same (len - 1))
front_and_rest-same (at_front.Refused number) file at r s same = refl

-- the lexemes of a text that isn't empty, by what stands at its front
pub lexemes-front : (file : List ℕ) (at : Point) (text : List ℕ) → 1 ≤ length text
    → lexemes_after file 0 at text ≡ front_and_rest file at (front text) (λ passed. rest_of file at text (passed + 1))
lexemes-front file at [] h = absurd (omega arith)
lexemes-front file at (b ∷ bs) h =
    front_and_rest-same (front (b ∷ bs)) file at (λ passed. lexemes_after file passed (after_byte at b) bs)
    (λ passed. rest_of file at (b ∷ bs) (passed + 1))
    (λ passed. let more : suc passed ≡ passed + 1 = omega arith in
    lexemes_after-drop file passed (after_byte at b) bs ∙ ap (rest_of file at (b ∷ bs)) more)

taken_front : (f : Front) (old new : List Lexeme) (file : List ℕ) (at : Point) (text : List ℕ) (len : ℕ)
    → TakesFront (Ok len) old new file at f → 1 ≤ len
    → before new (rest_of file at text len) ≡ before old (front_and_rest file at f (λ passed. rest_of file at text (passed + 1)))
taken_front (at_front.Gap n) old new file at text len (e, same) some =
    let more : n - 1 + 1 ≡ len = omega arith in
    rw (same, more) refl
taken_front (at_front.Lexeme kind n) old new file at text len (e, added) some =
    let more : n - 1 + 1 ≡ len = omega arith in
    rw (added, more) (sym (before-onto old (record { kind = kind; line = at.line; col = at.col }) (rest_of file at text len)))
taken_front (at_front.Refused number) old new file at text len h some = absurd h

-- after a step the lexemes found and those of the rest are as before
pub taken : (old new : List Lexeme) (file : List ℕ) (at : Point) (text : List ℕ) (len : ℕ)
    → TakesFront (Ok len) old new file at (front text) → 1 ≤ len → len ≤ length text
    → before new (rest_of file at text len) ≡ before old (lexemes_after file 0 at text)
taken old new file at text len h some within =
    taken_front (front text) old new file at text len h some ∙ ap (before old) (sym (lexemes-front file at text (omega arith)))

refused_front : (f : Front) (old new : List Lexeme) (file : List ℕ) (at : Point) (diag : Diag) (rest : ℕ → Result (List Lexeme) Diag)
    → TakesFront (Err (fault.Diag diag)) old new file at f → front_and_rest file at f rest ≡ Err diag
refused_front (at_front.Gap n) old new file at diag rest h = absurd h
refused_front (at_front.Lexeme kind n) old new file at diag rest h = absurd h
refused_front (at_front.Refused number) old new file at diag rest h = ap Err (sym h)

-- a refusal is that of the whole text
pub refused : (old new : List Lexeme) (file : List ℕ) (at : Point) (text : List ℕ) (diag : Diag)
    → TakesFront (Err (fault.Diag diag)) old new file at (front text) → 1 ≤ length text → before old (lexemes_after file 0 at text) ≡ Err diag
refused old new file at text diag h some =
    ap (before old) (lexemes-front file at text some ∙ refused_front (front text) old new file at diag _ h)

-- and it is what the whole text is answered with
gives_fault : (f : Fault) (old new : List Lexeme) (file : List ℕ) (at : Point) (text : List ℕ) (whole : Result (List Lexeme) Diag)
    → TakesFront (Err f) old new file at (front text) → 1 ≤ length text → before old (lexemes_after file 0 at text) ≡ whole
    → Gives (Err f) whole
gives_fault (fault.Diag diag) old new file at text whole h some e = sym e ∙ refused old new file at text diag h some
gives_fault fault.NoMemory old new file at text whole h some e = tt

pub gives_refusal : (f : Fault) (old new : List Lexeme) (file : List ℕ) (at : Point) (text : List ℕ) (whole : Result (List Lexeme) Diag)
    → TakesFront (Err f) old new file at (front text) → 1 ≤ length text → before old (lexemes_after file 0 at text) ≡ whole
    → (r : Result (List Lexeme) Fault) (Q : Fault → Type 0) → IsErrAnd r Q → ((y : Fault) → Q y → y ≡ f) → Gives r whole
gives_refusal f old new file at text whole h some e (Ok lexemes) Q is same = absurd is
gives_refusal f old new file at text whole h some e (Err y) Q is same =
    subst (λ (z : Fault). Gives (Err z) whole) (sym (same y is)) (gives_fault f old new file at text whole h some e)
