use Rattle.std.proofs.Common.{◌≡◌, length}
use Rattle.semantic_objects.specs.Nodes.{AreNodes}
use Rattle.unification.specs.Closing.{put_tree}
use Rattle.type_nodes.specs.Tables.{state}
use Rattle.type_walks.specs.Images.{AreImages}
use Rattle.known_environments.proofs.trees.known_nodes.Given as goal

abbrev pub invariant-loop-at : goal.invariant-loop-at
invariant-loop-at l = record {
  counted : length l.images ≡ l.at;
  nodes : AreNodes l.made;
  images : AreImages (put_tree (state l.fn.by).stands) l.fn.nodes l.made l.images;
}
