use Rattle.std.proofs.Common.{◌≡◌, ◌++◌, map, drop, Some}
use Rattle.environment_walks.specs.Changing.{image_in}
use Rattle.shared_types.proofs.nodes.images_of.Given as goal

abbrev pub invariant-loop-place : goal.invariant-loop-place
invariant-loop-place l =
    map Some l.made ++ map (image_in l.fn.images) (drop l.place-index l.fn.places) ≡ map (image_in l.fn.images) l.fn.places
