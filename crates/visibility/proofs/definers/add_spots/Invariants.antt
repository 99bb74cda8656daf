use Rattle.std.proofs.Common.{drop}
use Rattle.indexmap.specs.IndexMap.{get}
use Rattle.cm_conditions.specs.Tables.{same_name}
use Rattle.visibility.specs.Exports.{spots_in}
use Rattle.visibility.proofs.Defining.{SameSpots}
use Rattle.visibility.proofs.definers.add_spots.Given as goal

-- the table and the spots that are left say what the table at first and all spots say
abbrev pub invariant-loop-spot : goal.invariant-loop-spot
invariant-loop-spot l =
    SameSpots (get same_name l.table) (spots_in l.unit (drop l.spot-index l.spots))
    (get same_name l.fn.table) (spots_in l.unit l.spots)
