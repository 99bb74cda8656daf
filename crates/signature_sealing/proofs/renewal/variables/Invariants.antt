use Rattle.std.proofs.Common.{◌≡◌, map}
use Rattle.semantic_objects.specs.Trees.{Tree}
use Rattle.static_semantics.specs.DatatypeInference.{counted}
use Rattle.signature_sealing.proofs.renewal.variables.Given as goal

abbrev pub invariant-loop-at : goal.invariant-loop-at
invariant-loop-at l = l.trees ≡ map Tree.Bound (counted l.at 0)
