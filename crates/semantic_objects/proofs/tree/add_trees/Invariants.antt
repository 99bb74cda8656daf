use Rattle.std.proofs.Common.{drop}
use Rattle.semantic_objects.specs.Adding.{PlacedSoFar}
use Rattle.semantic_objects.proofs.tree.add_trees.Given as goal

abbrev pub invariant-loop-part : goal.invariant-loop-part
invariant-loop-part l = PlacedSoFar l.fn.nodes l.nodes l.places (drop l.part-index l.fn.parts) l.fn.parts
