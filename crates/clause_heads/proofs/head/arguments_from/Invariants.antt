use Rattle.std.proofs.Common.{◌≡◌, length}
use Rattle.grammars.specs.Reading.{read}
use Rattle.clause_heads.specs.Heads.{arguments_from}
use Rattle.clause_heads.proofs.head.arguments_from.Given as goal

-- what is left to read goes on from what was found so far
abbrev pub invariant-loop-found : goal.invariant-loop-found
invariant-loop-found l =
    read (arguments_from l.levels l.fixities l.wanted l.before l.found) l.lexemes.rest.now
    ≡ read (arguments_from l.fn.levels l.fn.fixities l.fn.wanted l.fn.before l.fn.found) l.fn.lexemes.rest.now

abbrev pub decreases-loop-found : goal.decreases-loop-found
decreases-loop-found l = length l.lexemes.rest.now
