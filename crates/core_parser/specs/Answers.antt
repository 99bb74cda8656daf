-- What the four public calls answer, in terms of phrases, fronts and levels alone, and what they leave of a cursor.
use Rattle.std.specs.Prelude.{ℕ, List, Result, Ok, Err}
use Rattle.cm_base.specs.declared.fault.Fault.{Fault}
use Rattle.sml_lexer.specs.declared.lexeme.Lexeme.{Lexeme}
use Rattle.grammars.specs.Grammar.{End}
use Rattle.sml_trees.specs.declared.full_exp.FullDec.{FullDec}
use Rattle.core_bindings.specs.Decs.{declares}
use Rattle.infix_names.specs.Fixities.{Fixities}
use Rattle.core_bindings.specs.Decs.{Decs}
use Rattle.phrase_reading.specs.Words.{g}
use Rattle.phrase_reading.specs.Refusals.{LongestRun, Refuses}
use Rattle.phrase_reading.specs.declared.tall.Tall.{Tall}

-- The longest run of fronts is a phrase with this tree, and `left` stands behind it; or it is refused.
abbrev pub Answers : {A : Type 0} → g (Tall A) → List ℕ → List Lexeme → List Lexeme → Result A Fault → List Lexeme
    → Type 0
Answers {A} grammar file all rest (Ok tree) left =
    (height : ℕ) × LongestRun grammar (End.whole (record { tree = tree; height = height })) rest left
Answers grammar file all rest (Err fault) left = Refuses grammar file all rest fault

-- The same of one declaration, behind which names bind so.
abbrev pub AnswersDec : g (Decs FullDec) → List ℕ → List Lexeme → List Lexeme → Result FullDec Fault → Fixities → List Lexeme
    → Type 0
AnswersDec grammar file all rest (Ok dec) fs left =
    (height : ℕ) × LongestRun grammar (End.whole (declares (record { tree = dec; height = height }) fs)) rest left
AnswersDec grammar file all rest (Err fault) fs left = Refuses grammar file all rest fault
