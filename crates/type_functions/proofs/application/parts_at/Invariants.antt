use Rattle.std.proofs.Common.{◌≡◌, ◌++◌, drop, map, Some}
use Rattle.type_schemes.specs.Instances.{ids_at}
use Rattle.type_functions.proofs.application.parts_at.Given as goal

abbrev pub invariant-loop-place : goal.invariant-loop-place
invariant-loop-place l =
    map Some l.parts ++ ids_at l.fn.ids (drop l.place-index l.fn.places) ≡ ids_at l.fn.ids l.fn.places
