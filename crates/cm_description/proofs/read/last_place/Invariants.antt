use Rattle.std.proofs.Common.{◌≡◌, drop}
use Rattle.cm_description.specs.Answers.{no_place, last_place}
use Rattle.cm_description.proofs.read.last_place.Given as goal

-- behind the last token seen that is no rest, what is left ends where all of them do
abbrev pub invariant-loop-token : goal.invariant-loop-token
invariant-loop-token l =
    last_place l.file (record { file = l.file; line = l.line; col = l.col }) (drop l.token-index l.tokens)
    ≡ last_place l.file (no_place l.file) l.tokens
