use Rattle.std.proofs.Common.{subst, sym, length}
use Rattle.semantic_objects.specs.Nodes.{AreBelow}
use Rattle.semantic_objects.proofs.Adding.{below_at}
use Rattle.semantic_objects.proofs.tree.trees_of_places.Goals as goal

pub tree_of_place-requires-clause-within : goal.tree_of_place-requires-clause-within
tree_of_place-requires-clause-within c =
    below_at (length c.args.nodes.now) c.loop-place.place-index c.as_slice-place-items.result.now
    (subst (AreBelow (length c.args.nodes.now)) (sym c.as_slice-place-items.ensures) c.requires.within)
    c.loop-place-test.true
