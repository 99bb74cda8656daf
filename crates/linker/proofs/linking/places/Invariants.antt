use Rattle.std.proofs.Common.{◌≡◌, ℕ, List, drop, nat_eq}
use Rattle.std.specs.Option.{option_or}
use lib.Pointwise.{pointwise}
use Rattle.indexmap.specs.IndexMap.{get}
use Rattle.linker.specs.Linked.{place_from}
use Rattle.linker.proofs.linking.places.Given as goal

-- the places so far and those of the rest are the places of all units
abbrev pub invariant-loop-unit : goal.invariant-loop-unit
invariant-loop-unit l =
    (l.place ≡ l.unit-index)
    × ((q : List ℕ) →
    option_or (place_from l.unit-index (drop l.unit-index l.units) q) (get (pointwise nat_eq) l.table q)
    ≡ place_from 0 l.units q)
