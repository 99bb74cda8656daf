use Rattle.std.proofs.Common.{◌≡◌, length}
use Rattle.grammars.specs.Reading.{read}
use Rattle.core_expressions.specs.Values.{recs_from}
use Rattle.core_expressions.proofs.val_decs.recs_from.Given as goal

-- what is left to read goes on from what was found so far
abbrev pub invariant-loop-lexemes : goal.invariant-loop-lexemes
invariant-loop-lexemes l = read (recs_from l.recs) l.lexemes.rest.now ≡ read (recs_from l.fn.before) l.fn.lexemes.rest.now

abbrev pub decreases-loop-lexemes : goal.decreases-loop-lexemes
decreases-loop-lexemes l = length l.lexemes.rest.now
