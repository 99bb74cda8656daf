use Rattle.std.proofs.Common.{◌≡◌, ◌++◌}
use Rattle.semantic_objects.specs.Parts.{labels_of, parts_of}
use Rattle.semantic_objects.proofs.part.fields_of.Given as goal

abbrev pub invariant-loop-part : goal.invariant-loop-part
invariant-loop-part l =
    (labels_of l.fields ++ l.rest ≡ l.fn.labels) × (parts_of l.fields ++ l.part-iterator.rest.items ≡ l.fn.parts)
