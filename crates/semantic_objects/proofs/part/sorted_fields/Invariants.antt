use Rattle.std.proofs.Common.{◌≡◌, ◌++◌}
use Rattle.semantic_objects.specs.Parts.{labels_of, parts_of}
use Rattle.semantic_objects.proofs.part.sorted_fields.Given as goal

abbrev pub invariant-loop-field : goal.invariant-loop-field
invariant-loop-field l =
    (l.labels ++ labels_of l.field-iterator.rest.items ≡ labels_of l.initial.field-iterator.rest.items)
    × (l.parts ++ parts_of l.field-iterator.rest.items ≡ parts_of l.initial.field-iterator.rest.items)
