use Rattle.std.proofs.Common.{◌≡◌, length}
use Rattle.grammars.specs.Reading.{read}
use Rattle.cm_description.specs.Grammar.{members, no_members}
use Rattle.cm_description.proofs.member_list.members.Given as goal

-- What is left to read goes on from what was found so far.
abbrev pub invariant-loop-token : goal.invariant-loop-token
invariant-loop-token l =
    read (members l.source.file.now l.source.bytes.now l.found) l.cursor.rest.now
    ≡ read (members l.source.file.now l.source.bytes.now no_members) l.fn.cursor.rest.now

abbrev pub decreases-loop-token : goal.decreases-loop-token
decreases-loop-token l = length l.cursor.rest.now
