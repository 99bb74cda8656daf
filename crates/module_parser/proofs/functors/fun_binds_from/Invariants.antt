use Rattle.std.proofs.Common.{◌≡◌, length}
use Rattle.grammars.specs.Reading.{read}
use Rattle.module_parser.specs.Functors.{fun_bind}
use Rattle.signature_parser.specs.Joined.{bindings_from}
use Rattle.module_parser.proofs.functors.fun_binds_from.Given as goal

-- what is left to read goes on from what was found so far
abbrev pub invariant-loop-found : goal.invariant-loop-found
invariant-loop-found l =
    read (bindings_from (fun_bind l.levels) l.found) l.lexemes.rest.now
    ≡ read (bindings_from (fun_bind l.levels) l.fn.found) l.fn.lexemes.rest.now

abbrev pub decreases-loop-found : goal.decreases-loop-found
decreases-loop-found l = length l.lexemes.rest.now
