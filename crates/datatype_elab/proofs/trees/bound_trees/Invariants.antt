use Rattle.std.proofs.Common.{◌≡◌, map}
use Rattle.semantic_objects.specs.Trees.{Tree}
use Rattle.static_semantics.specs.DatatypeInference.{counted}
use Rattle.datatype_elab.proofs.trees.bound_trees.Given as goal

abbrev pub invariant-loop-place : goal.invariant-loop-place
invariant-loop-place l = l.trees ≡ map Tree.Bound (counted l.place 0)
