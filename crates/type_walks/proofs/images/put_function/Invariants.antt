use Rattle.std.proofs.Common.{◌≡◌, length}
use Rattle.unification.specs.Closing.{plug}
use Rattle.type_walks.specs.Images.{AreImages, arguments_at, Grown}
use Rattle.type_walks.proofs.images.put_function.Given as goal

abbrev pub invariant-loop-at : goal.invariant-loop-at
invariant-loop-at l = record {
  counted : length l.images ≡ l.at;
  grown : Grown l.fn.made l.made;
  images : AreImages (plug (arguments_at l.fn.made l.fn.args)) l.nodes l.made l.images;
}
