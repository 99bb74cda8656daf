use Rattle.std.proofs.Common.{◌≡◌, ◌++◌}
use Rattle.sml_types.specs.Looking.{labels_of, ids_of}
use Rattle.sml_types.proofs.record.in_order.Given as goal

abbrev pub invariant-loop-field : goal.invariant-loop-field
invariant-loop-field l =
    (l.labels ++ labels_of l.field-iterator.rest.items ≡ labels_of l.initial.field-iterator.rest.items)
    × (l.parts ++ ids_of l.field-iterator.rest.items ≡ ids_of l.initial.field-iterator.rest.items)
