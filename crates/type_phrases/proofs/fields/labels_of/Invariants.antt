use Rattle.std.proofs.Common.{◌≡◌, take}
use Rattle.semantic_objects.specs.Tables.{names_of}
use Rattle.type_phrases.proofs.fields.labels_of.Given as goal

abbrev pub invariant-loop-row : goal.invariant-loop-row
invariant-loop-row l = l.labels ≡ names_of (take l.row-index l.rows)
