use Rattle.std.proofs.Common.{◌≡◌, [], ◌∷◌, ◌++◌, drop}
use Rattle.std.specs.List.{join_with_byte}
use Rattle.structure_matching.proofs.refusals.dotted.Given as goal

abbrev pub invariant-loop-part : goal.invariant-loop-part
invariant-loop-part l = l.bytes.items ++ join_with_byte 46 (drop l.part-index l.path ++ l.name ∷ [])
    ≡ join_with_byte 46 (l.fn.path ++ l.name ∷ [])
