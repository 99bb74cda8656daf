use Rattle.std.proofs.Common.{◌≡◌, ◌++◌, drop, map, Some}
use Rattle.table_schemes.specs.Entering.{parts_at}
use Rattle.table_schemes.proofs.enters.parts_at.Given as goal

abbrev pub invariant-loop-place : goal.invariant-loop-place
invariant-loop-place l =
    map Some l.found ++ parts_at l.fn.parts (drop l.place-index l.fn.places) ≡ parts_at l.fn.parts l.fn.places
