use Rattle.std.proofs.Common.{◌≡◌, ◌++◌, drop, map, slice_get, Some}
use Rattle.known_environments.proofs.images.images_of.Given as goal

abbrev pub invariant-loop-place : goal.invariant-loop-place
invariant-loop-place l =
    map Some l.picked ++ map (λ x. slice_get l.fn.images x) (drop l.place-index l.fn.places)
    ≡ map (λ x. slice_get l.fn.images x) l.fn.places
