-- What contracts see of a reading of lexemes.
use Rattle.std.specs.Prelude.{◌≡◌, List, Result, Ok, Err}
use Rattle.grammars.specs.Grammar.{End}
use Rattle.grammars.specs.Reading.{Out, read}
use Rattle.cm_conditions.specs.Grammar.{g}
use Rattle.cm_conditions.specs.declared.cond.Cond.{Cond}
use Rattle.cm_conditions.specs.declared.lexeme.Lexeme.{Lexeme}
use Rattle.cm_conditions.specs.declared.reader.Stop.{Stop}
use Rattle.cm_conditions.specs.declared.reader.Stop.TheVariants as stop

-- what the reader makes of the lexemes, where it isn't whole; nothing is said for want of memory
abbrev pub Stops : Stop → Out Lexeme Cond → List Lexeme → Type 0
Stops stop.Refused o left = o ≡ Out.out End.refused left
Stops stop.TooDeep o left = o ≡ Out.out End.deep left
Stops stop.NoMemory o left = Unit {0}

-- the call answers, and leaves, what the reader of the grammar does
abbrev pub Reads : g → List Lexeme → Result Cond Stop → List Lexeme → Type 0
Reads g rest (Ok cond) left = read g rest ≡ Out.out (End.whole cond) left
Reads g rest (Err why) left = Stops why (read g rest) left
