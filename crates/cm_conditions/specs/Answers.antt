-- What the reading of a condition's text answers, in terms of phrases and fronts alone, and what a printed text is.
use Rattle.std.specs.Prelude.{◌≡◌, ◌⊎◌, ℕ, true, List, None, Result, Ok, Err}
use Rattle.std.specs.List.{list_all}
use Rattle.cm_base.specs.Diags.{whole_file}
use Rattle.cm_base.specs.declared.diag.Place.{Place}
use Rattle.cm_base.specs.declared.fault.Fault.{Fault}
use Rattle.cm_base.specs.declared.fault.Fault.TheVariants as fault
use Rattle.grammars.specs.Grammar.{Phrase}
use Rattle.grammars.specs.Texts.{IsRefused, IsTooDeep}
use Rattle.cm_conditions.specs.Grammar.{condition}
use Rattle.cm_conditions.specs.Lexemes.{lexemes_of}
use Rattle.cm_conditions.specs.Printing.{is_in_line}
use Rattle.cm_conditions.specs.Values.{bad_condition}
use Rattle.cm_conditions.specs.declared.cond.Cond.{Cond}

-- The whole text is a condition, and this its tree; or at some lexeme nothing of the grammar can go on, which is 3 at
-- the place; or some parenthesis is the 129th that is open at once, which is 12 on the file. Nothing is said for want
-- of memory.
abbrev pub ReadsCondition : Place → List ℕ → Result Cond Fault → Type 0
ReadsCondition at text (Ok cond) = Phrase (condition 128) (lexemes_of text) None cond
ReadsCondition at text (Err (fault.Diag diag)) =
    ((n : ℕ) × (diag ≡ bad_condition at) × IsRefused (condition 128) (lexemes_of text) n)
    ⊎ ((n : ℕ) × (diag ≡ whole_file 12 at.file) × IsTooDeep (condition 128) (lexemes_of text) n)
ReadsCondition at text (Err fault.NoMemory) = Unit {0}

-- a condition that some text is
abbrev pub IsRead : Cond → Type 0
IsRead cond = (text : List ℕ) × Phrase (condition 128) (lexemes_of text) None cond

-- one line, which is read as this condition
pub record IsPrinted (text : List ℕ) (cond : Cond) : Type 0 where
  pub line : list_all is_in_line text ≡ true
  pub again : Phrase (condition 128) (lexemes_of text) None cond
