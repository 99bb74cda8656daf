-- What the reading of a unit answers, in terms of texts, phrases and fronts alone.
use Rattle.std.specs.Prelude.{◌≡◌, ℕ, ◌⊎◌, ◌-◌, Option, None, Some, List, [], ◌∷◌, Result, Ok, Err}
use Rattle.cm_base.specs.Diags.{whole_file}
use Rattle.cm_base.specs.declared.diag.Diag.{Diag}
use Rattle.cm_base.specs.declared.fault.Fault.{Fault}
use Rattle.cm_base.specs.declared.fault.Fault.TheVariants as fault
use Rattle.grammars.specs.Grammar.{Phrase}
use Rattle.sml_lexer.specs.declared.lexeme.Lexeme.{Lexeme}
use Rattle.sml_trees.specs.declared.full_unit.FullUnit.{FullUnit}
use Rattle.phrase_reading.specs.Refusals.{place_of, refusal}
use Rattle.phrase_reading.specs.declared.stop.Stop.{Stop}
use Rattle.phrase_reading.specs.declared.stop.Stop.TheVariants as stop
use Rattle.module_parser.specs.Units.{topdecs, IsUnit, IsFirstDiagnostic, IsCutShort, IsTooDeep, IsBehindUnit}

-- The text of this file is this unit; or this is its first diagnostic. Nothing is said for want of memory.
abbrev pub AnswersUnit : List ℕ → List ℕ → Result FullUnit Fault → Type 0
AnswersUnit file source (Ok unit) = IsUnit file source unit
AnswersUnit file source (Err (fault.Diag diag)) = IsFirstDiagnostic file source diag
AnswersUnit file source (Err fault.NoMemory) = Unit {0}

-- the same of lexemes
abbrev pub AnswersLexemes : List ℕ → List Lexeme → Result FullUnit Fault → Type 0
AnswersLexemes file lexemes (Ok unit) =
    (height : ℕ) × Phrase topdecs lexemes None (record { tree = unit.topdecs; height = height }) × (unit.file ≡ file)
AnswersLexemes file lexemes (Err (fault.Diag diag)) =
    IsCutShort file lexemes diag ⊎ (IsTooDeep file lexemes diag ⊎ IsBehindUnit file lexemes diag)
AnswersLexemes file lexemes (Err fault.NoMemory) = Unit {0}

-- a refusal with this number at a lexeme, or on the file where there is none
abbrev pub refused : List ℕ → ℕ → Option Lexeme → Diag
refused file number x = record { number = number; at = place_of file x; names = [] }

-- the diagnostic of a reading that stopped before these lexemes of all, or want of memory to make it
abbrev pub StopsWith : List ℕ → Stop → List Lexeme → List Lexeme → Fault → Type 0
StopsWith file stop.Refused all left (fault.Diag diag) = diag ≡ refusal file all left
StopsWith file stop.TooDeep all left (fault.Diag diag) = diag ≡ whole_file 12 file
StopsWith file stop.NoMemory all left (fault.Diag diag) = ⊥
StopsWith file why all left fault.NoMemory = Unit {0}
