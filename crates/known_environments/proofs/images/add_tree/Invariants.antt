use Rattle.std.proofs.Common.{◌≡◌, length}
use Rattle.type_walks.specs.Images.{AreImages, Grown}
use Rattle.known_environments.specs.Copies.{same_tree}
use Rattle.known_environments.proofs.images.add_tree.Given as goal

abbrev pub invariant-loop-at : goal.invariant-loop-at
invariant-loop-at l = record {
  counted : length l.images ≡ l.at;
  grown : Grown l.fn.made l.made;
  images : AreImages same_tree l.nodes l.made l.images;
}
