use Rattle.std.proofs.Common.{◌≡◌, length}
use Rattle.semantic_objects.specs.Nodes.{AreNodes}
use Rattle.realisation.specs.Realised.{realised_tree}
use Rattle.type_walks.specs.Images.{AreImages}
use Rattle.type_walks.specs.Replaced.{put_by}
use Rattle.type_walks.proofs.trees.replaced_nodes.Given as goal

abbrev pub invariant-loop-at : goal.invariant-loop-at
invariant-loop-at l = record {
  counted : length l.images ≡ l.at;
  nodes : AreNodes l.made;
  images : AreImages (realised_tree (put_by l.fn.by)) l.fn.nodes l.made l.images;
}
