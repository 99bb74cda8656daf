use Rattle.std.proofs.Common.{◌≡◌, ◌++◌, drop}
use Rattle.sml_types.specs.Looking.{labels_of, ids_of}
use Rattle.sml_types.proofs.look.fields_of.Given as goal

abbrev pub invariant-loop-part : goal.invariant-loop-part
invariant-loop-part l =
    (labels_of l.fields ++ l.rest ≡ l.fn.labels) × (ids_of l.fields ++ drop l.part-index l.fn.parts ≡ l.fn.parts)
