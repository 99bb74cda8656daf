use Rattle.std.proofs.Common.{◌≡◌, take}
use Rattle.type_phrases.specs.Steps.{ids_in}
use Rattle.type_phrases.proofs.fields.parts_of.Given as goal

abbrev pub invariant-loop-row : goal.invariant-loop-row
invariant-loop-row l = l.parts ≡ ids_in (take l.row-index l.rows)
