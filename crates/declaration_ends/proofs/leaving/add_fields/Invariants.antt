use Rattle.std.proofs.Common.{◌≡◌, ◌++◌, drop}
use Rattle.sml_types.specs.Looking.{ids_of}
use Rattle.declaration_ends.proofs.leaving.add_fields.Given as goal

abbrev pub invariant-loop-field : goal.invariant-loop-field
invariant-loop-field l = l.ids ++ ids_of (drop l.field-index l.fn.fields) ≡ l.fn.ids ++ ids_of l.fn.fields
