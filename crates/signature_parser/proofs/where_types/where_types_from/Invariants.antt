use Rattle.std.proofs.Common.{◌≡◌, length}
use Rattle.grammars.specs.Reading.{read}
use Rattle.core_types.specs.Types.{ty}
use Rattle.signature_parser.specs.Signatures.{where_types_from}
use Rattle.signature_parser.proofs.where_types.where_types_from.Given as goal

-- what is left to read goes on from what was found so far
abbrev pub invariant-loop-found : goal.invariant-loop-found
invariant-loop-found l =
    read (where_types_from (ty l.levels) l.found) l.lexemes.rest.now
    ≡ read (where_types_from (ty l.levels) l.fn.found) l.fn.lexemes.rest.now

abbrev pub decreases-loop-found : goal.decreases-loop-found
decreases-loop-found l = length l.lexemes.rest.now
