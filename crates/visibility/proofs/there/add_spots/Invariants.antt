use Rattle.std.proofs.Common.{◌≡◌, ◌++◌, drop, map}
use Rattle.cm_base.specs.declared.record.Spot.{Spot}
use Rattle.visibility.proofs.there.add_spots.Given as goal

-- the names so far and those that are left
abbrev pub invariant-loop-spot : goal.invariant-loop-spot
invariant-loop-spot l =
    l.names ++ map (λ (spot : Spot). spot.name) (drop l.spot-index l.spots)
    ≡ l.fn.names ++ map (λ (spot : Spot). spot.name) l.spots
