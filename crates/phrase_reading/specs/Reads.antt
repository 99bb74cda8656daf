-- What contracts see of a function that reads a phrase: its answer and what it leaves are those of the grammar's
-- reader.
use Rattle.std.specs.Prelude.{◌≡◌, List, Result, Ok, Err}
use Rattle.grammars.specs.Grammar.{End}
use Rattle.grammars.specs.Reading.{Out, read}
use Rattle.sml_lexer.specs.declared.lexeme.Lexeme.{Lexeme}
use Rattle.phrase_reading.specs.Words.{g}
use Rattle.phrase_reading.specs.declared.stop.Stop.{Stop}
use Rattle.phrase_reading.specs.declared.stop.Stop.TheVariants as stop

-- what the reader makes of the lexemes, where it isn't whole; nothing is said for want of memory
abbrev pub Stops : {A : Type 0} → Stop → Out Lexeme A → List Lexeme → Type 0
Stops stop.Refused o left = o ≡ Out.out End.refused left
Stops stop.TooDeep o left = o ≡ Out.out End.deep left
Stops stop.NoMemory o left = Unit {0}

-- the call answers, and leaves, what the reader of the grammar does
abbrev pub Reads : {A : Type 0} → g A → List Lexeme → Result A Stop → List Lexeme → Type 0
Reads g rest (Ok value) left = read g rest ≡ Out.out (End.whole value) left
Reads g rest (Err why) left = Stops why (read g rest) left
