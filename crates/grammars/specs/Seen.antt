-- What contracts see of a tree with its height, and of a reading.
use Rattle.std.specs.Prelude.{◌≡◌, List, Result, Ok, Err}
use Rattle.grammars.specs.Grammar.{End}
use Rattle.grammars.specs.Reading.{Out, read}
use Rattle.grammars.specs.Shape.{shape}
use Rattle.grammars.specs.Sums.{TallShape, g}
use Rattle.grammars.specs.declared.toy.token.Token.{Token}
use Rattle.grammars.specs.declared.toy.made.Made.{Made}
use Rattle.grammars.specs.declared.toy.fault.Fault.{Fault}
use Rattle.grammars.specs.declared.toy.fault.Fault.TheVariants as f

-- a tree without the places of its boxes, and its height
abbrev pub seen : Made → TallShape
seen made = record { value = shape made.tree; height = made.height }

-- what the reader makes of the text, where it isn't whole; nothing is said for want of memory
abbrev pub Faults : Fault → Out Token TallShape → List Token → Type 0
Faults f.Refused o left = o ≡ Out.out End.refused left
Faults f.TooDeep o left = o ≡ Out.out End.deep left
Faults f.NoMemory o left = Unit {0}

-- the call answers, and leaves, what the reader of the grammar does
abbrev pub Reads : g → List Token → Result Made Fault → List Token → Type 0
Reads g rest (Ok made) left = read g rest ≡ Out.out (End.whole (seen made)) left
Reads g rest (Err fault) left = Faults fault (read g rest) left
