-- What contracts see of a reading of tokens.
use Rattle.std.specs.Prelude.{◌≡◌, ◌⊎◌, ℕ, [], ◌∷◌, ◌++◌, List, Option, Some, None, Result, Ok, Err}
use Rattle.cm_base.specs.declared.diag.Diag.{Diag}
use Rattle.cm_base.specs.declared.fault.Fault.{Fault}
use Rattle.cm_base.specs.declared.fault.Fault.TheVariants as fault
use Rattle.grammars.specs.Grammar.{End}
use Rattle.grammars.specs.Reading.{Out, read}
use Rattle.cm_lexer.specs.Spelling.{slice_of}
use Rattle.cm_lexer.specs.declared.token.Token.{Token}
use Rattle.cm_conditions.specs.Answers.{ReadsCondition}
use Rattle.cm_conditions.specs.Values.{bad_condition}
use Rattle.cm_conditions.specs.declared.cond.Cond.{Cond}
use Rattle.cm_description.specs.Words.{place}
use Rattle.cm_description.specs.Grammar.{g}
use Rattle.cm_description.specs.declared.stop.Stop.{Stop}
use Rattle.cm_description.specs.declared.stop.Stop.TheVariants as stop

-- what the reader makes of the tokens, where it isn't whole; nothing is said for want of memory
abbrev pub Stops : {A : Type 0} → Stop → Out Token A → List Token → Type 0
Stops stop.Refused o left = o ≡ Out.out End.refused left
Stops stop.BadCondition o left = o ≡ Out.out End.deep left
Stops stop.NoMemory o left = Unit {0}

-- the call answers, and leaves, what the reader of the grammar does
abbrev pub Reads : {A : Type 0} → g A → List Token → Result A Stop → List Token → Type 0
Reads form rest (Ok value) left = read form rest ≡ Out.out (End.whole value) left
Reads form rest (Err why) left = Stops why (read form rest) left

-- a refusal of a condition ends the reading, and so does want of memory
abbrev pub IsBad : Fault → Stop → Type 0
IsBad (fault.Diag diag) why = why ≡ stop.BadCondition
IsBad fault.NoMemory why = why ≡ stop.NoMemory

-- what is said, where a condition may not stand here
abbrev pub SaysNot : {A : Type 0} → Stop → Option A → Type 0
SaysNot stop.Refused found = ⊥
SaysNot stop.BadCondition found = found ≡ None
SaysNot stop.NoMemory found = Unit {0}

-- the call answers what is said, if something is
abbrev pub Says : {A : Type 0} → Option A → Result A Stop → Type 0
Says found (Ok value) = found ≡ Some value
Says found (Err why) = SaysNot why found

-- what is wrong with a directive and its rest, where it is known that it may not stand: its text is no condition, and
-- else the condition is one
abbrev pub ShowsBad : List ℕ → List ℕ → Token → Token → Diag → Type 0
ShowsBad file text x rest diag =
    ReadsCondition (place file x) (slice_of text rest) (Err (fault.Diag diag))
    ⊎ ((cond : Cond) × ReadsCondition (place file x) (slice_of text rest) (Ok cond)
    × (diag ≡ bad_condition (place file x)))

-- these tokens end with those two
abbrev pub EndWith : List Token → Token → Token → Type 0
EndWith xs x y = (before : List Token) × (xs ≡ before ++ x ∷ y ∷ [])

-- the same of the last two of these tokens
abbrev pub ShowsEnd : List ℕ → List ℕ → List Token → Diag → Type 0
ShowsEnd file text taken diag = (x rest : Token) × EndWith taken x rest × ShowsBad file text x rest diag
