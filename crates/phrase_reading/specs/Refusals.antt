-- Where a reading of phrases is refused: the longest run of lexemes that begins a phrase, and the diagnostic behind it.
use Rattle.std.specs.Prelude.{◌≡◌, ℕ, ◌++◌, ◌-◌, ◌⊎◌, List, [], ◌∷◌, Option, None, Some, length, slice_get}
use Rattle.cm_base.specs.Diags.{whole_file}
use Rattle.cm_base.specs.declared.diag.Diag.{Diag}
use Rattle.cm_base.specs.declared.diag.Place.{Place}
use Rattle.cm_base.specs.declared.fault.Fault.{Fault}
use Rattle.cm_base.specs.declared.fault.Fault.TheVariants as fault
use Rattle.sml_lexer.specs.declared.lexeme.Lexeme.{Lexeme}
use Rattle.grammars.specs.Grammar.{End, head_or, Ends}
use Rattle.grammars.specs.Front.{FirstNoFront}
use Rattle.phrase_reading.specs.Words.{g}

-- the place of a lexeme, or the whole file where there is none
abbrev pub place_of : List ℕ → Option Lexeme → Place
place_of file None = record { file = file; line = 0; col = 0 }
place_of file (Some x) = record { file = file; line = x.line; col = x.col }

-- where a refusal stands in a source of these lexemes: at the first of those that are left, or else at the last one
abbrev pub refusal_place : List ℕ → List Lexeme → List Lexeme → Place
refusal_place file all [] = place_of file (slice_get all (length all - 1))
refusal_place file all (x ∷ left) = place_of file (Some x)

abbrev pub refusal : List ℕ → List Lexeme → List Lexeme → Diag
refusal file all left = record { number = 20; at = refusal_place file all left; names = [] }

-- The longest run of lexemes all of whose beginnings are fronts of the grammar is what stands before `left`; the run
-- ends so.
pub record LongestRun {A : Type 0} (grammar : g A) (e : End A) (rest left : List Lexeme) : Type 0 where
  pub run : List Lexeme
  pub text : rest ≡ run ++ left
  pub ends : Ends grammar e run (head_or left None)
  pub longest : FirstNoFront grammar rest left

-- A refusal in a file whose lexemes are `all`, of which `rest` are left: the longest run of fronts is no phrase, which
-- is 20 at the lexeme behind it or at the last one; or its last lexeme opens a level too many, which is 12 on the file.
-- Nothing is said for want of memory.
abbrev pub Refuses : {A : Type 0} → g A → List ℕ → List Lexeme → List Lexeme → Fault → Type 0
Refuses grammar file all rest (fault.Diag diag) =
    ((behind : List Lexeme) × LongestRun grammar End.refused rest behind × (diag ≡ refusal file all behind))
    ⊎ ((behind : List Lexeme) × LongestRun grammar End.deep rest behind × (diag ≡ whole_file 12 file))
Refuses grammar file all rest fault.NoMemory = Unit {0}
