use Rattle.std.proofs.Common.{◌≡◌, length}
use Rattle.grammars.specs.Reading.{read}
use Rattle.phrase_reading.specs.Names.{taken_from}
use Rattle.phrase_reading.specs.Words.{name_of, named}
use Rattle.phrase_reading.proofs.binders.names_from.Given as goal

-- what is left to read goes on from what was found so far
abbrev pub invariant-loop-lexemes : goal.invariant-loop-lexemes
invariant-loop-lexemes l =
    read (taken_from name_of named l.found) l.lexemes.rest.now
    ≡ read (taken_from name_of named l.fn.found) l.fn.lexemes.rest.now

abbrev pub decreases-loop-lexemes : goal.decreases-loop-lexemes
decreases-loop-lexemes l = length l.lexemes.rest.now
