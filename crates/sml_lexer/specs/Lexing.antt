-- The lexemes of a whole text with their places, or its first lexical diagnostic.
use Rattle.std.specs.Prelude.{◌≡◌, ⊤, ◌++◌, ℕ, ◌+◌, ◌-◌, ◌==◌, nat_lt, zero, suc, List, [], ◌∷◌, length, Result, Ok, Err, if◌then◌else◌}
use Rattle.cm_base.specs.declared.fault.Fault.{Fault}
use Rattle.cm_base.specs.declared.fault.Fault.TheVariants as fault
use Rattle.cm_base.specs.declared.diag.Diag.{Diag}
use Rattle.cm_base.specs.Diags.{whole_file}
use Rattle.sml_lexer.specs.declared.lexeme.Lexeme.{Lexeme}
use Rattle.sml_lexer.specs.declared.place.Point.{Point}
use Rattle.sml_lexer.specs.declared.front.Front.{Front}
use Rattle.sml_lexer.specs.declared.front.Front.TheVariants as at_front
use Rattle.sml_lexer.specs.Fronts.{front}

-- the place after a byte: lines count from 1, and columns from 1 in bytes
abbrev pub after_byte : Point → ℕ → Point
after_byte at b = if b == 10 then record { line = at.line + 1; col = 1 } else record { line = at.line; col = at.col + 1 }

-- a limit that is passed is told of the whole file, and what may not stand in a source at its first byte
abbrev pub refusal : List ℕ → Point → ℕ → Diag
refusal file at number =
    if number == 12 then whole_file 12 file
    else record { number = number; at = record { file = file; line = at.line; col = at.col }; names = [] }

-- a lexeme before those of the rest
abbrev pub onto : Lexeme → Result (List Lexeme) Diag → Result (List Lexeme) Diag
onto lexeme (Ok lexemes) = Ok (lexeme ∷ lexemes)
onto lexeme (Err diag) = Err diag

-- what stands at a place of a file, and then what comes after so many more bytes
abbrev pub front_and_rest : List ℕ → Point → Front → (ℕ → Result (List Lexeme) Diag) → Result (List Lexeme) Diag
front_and_rest file at (at_front.Gap len) rest = rest (len - 1)
front_and_rest file at (at_front.Lexeme kind len) rest = onto (record { kind = kind; line = at.line; col = at.col }) (rest (len - 1))
front_and_rest file at (at_front.Refused number) rest = Err (refusal file at number)

-- the lexemes of a text that begins at a place, from the byte on that stands after so many others
abbrev pub lexemes_after : List ℕ → ℕ → Point → List ℕ → Result (List Lexeme) Diag
lexemes_after file passed at [] = Ok []
lexemes_after file (suc passed) at (b ∷ bs) = lexemes_after file passed (after_byte at b) bs
lexemes_after file zero at (b ∷ bs) =
    front_and_rest file at (front (b ∷ bs)) (λ passed. lexemes_after file passed (after_byte at b) bs)

-- what a step over the front of a text leaves: its length and the lexeme that it is, if it is one, or its refusal
abbrev pub TakesFront : Result ℕ Fault → List Lexeme → List Lexeme → List ℕ → Point → Front → Type 0
TakesFront (Ok len) old new file at (at_front.Gap n) = (len ≡ n) × (new ≡ old)
TakesFront (Ok len) old new file at (at_front.Lexeme kind n) =
    (len ≡ n) × (new ≡ old ++ record { kind = kind; line = at.line; col = at.col } ∷ [])
TakesFront (Ok len) old new file at (at_front.Refused number) = ⊥
TakesFront (Err (fault.Diag diag)) old new file at (at_front.Refused number) = diag ≡ refusal file at number
TakesFront (Err (fault.Diag diag)) old new file at _ = ⊥
TakesFront (Err fault.NoMemory) old new file at _ = ⊤

-- the lexemes of a source of at most 1,048,576 bytes
unfoldable pub lexemes_of : List ℕ → List ℕ → Result (List Lexeme) Diag
lexemes_of file source =
    if nat_lt 1048576 (length source) then Err (whole_file 12 file)
    else lexemes_after file 0 (record { line = 1; col = 1 }) source
