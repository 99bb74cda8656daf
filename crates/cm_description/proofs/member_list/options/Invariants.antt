use Rattle.std.proofs.Common.{◌≡◌, length}
use Rattle.grammars.specs.Reading.{read}
use Rattle.cm_description.specs.Grammar.{options}
use Rattle.cm_description.proofs.member_list.options.Given as goal

-- What is left to read goes on from the options found so far.
abbrev pub invariant-loop-token : goal.invariant-loop-token
invariant-loop-token l =
    read (options l.source.bytes.now l.found) l.cursor.rest.now
    ≡ read (options l.source.bytes.now l.fn.first) l.fn.cursor.rest.now

abbrev pub decreases-loop-token : goal.decreases-loop-token
decreases-loop-token l = length l.cursor.rest.now
