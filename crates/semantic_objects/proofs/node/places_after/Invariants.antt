use Rattle.std.proofs.Common.{◌≡◌, ◌+◌, ◌++◌, map, drop}
use Rattle.semantic_objects.proofs.node.places_after.Given as goal

abbrev pub invariant-loop-place : goal.invariant-loop-place
invariant-loop-place l =
    l.after ++ map (λ p. l.fn.by + p) (drop l.place-index l.fn.places) ≡ map (λ p. l.fn.by + p) l.fn.places
