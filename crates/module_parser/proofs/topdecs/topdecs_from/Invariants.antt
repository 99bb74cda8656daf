use Rattle.std.proofs.Common.{◌≡◌, length}
use Rattle.grammars.specs.Reading.{read}
use Rattle.module_parser.specs.Units.{topdecs_from}
use Rattle.module_parser.proofs.topdecs.topdecs_from.Given as goal

-- what is left to read goes on from what was found so far
abbrev pub invariant-loop-first : goal.invariant-loop-first
invariant-loop-first l =
    read (topdecs_from l.levels l.found) l.lexemes.rest.now ≡ read (topdecs_from l.levels l.fn.found) l.fn.lexemes.rest.now

abbrev pub decreases-loop-first : goal.decreases-loop-first
decreases-loop-first l = length l.lexemes.rest.now
