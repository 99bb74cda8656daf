use Rattle.std.proofs.Common.{◌≡◌, ◌++◌, drop}
use Rattle.semantic_objects.specs.Nodes.{trees_at, unfolded}
use Rattle.semantic_objects.proofs.tree.trees_of_places.Given as goal

abbrev pub invariant-loop-place : goal.invariant-loop-place
invariant-loop-place l =
    l.trees ++ trees_at (unfolded l.fn.nodes) (drop l.place-index l.fn.places)
    ≡ trees_at (unfolded l.fn.nodes) l.fn.places
