use Rattle.std.proofs.Common.{◌≡◌, ◌++◌, drop}
use Rattle.std.specs.List.{join_with_byte}
use Rattle.type_phrases.specs.Dotted.{dotted_rest}
use Rattle.type_phrases.proofs.diagnostics.dotted.Given as goal

-- what was written, and the parts that are left
abbrev pub invariant-loop-part : goal.invariant-loop-part
invariant-loop-part l = l.bytes.items ++ dotted_rest (drop l.part-index l.rest) ≡ join_with_byte 46 l.fn.parts
