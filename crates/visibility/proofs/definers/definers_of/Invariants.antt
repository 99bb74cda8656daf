use Rattle.std.proofs.Common.{drop}
use Rattle.indexmap.specs.IndexMap.{get}
use Rattle.cm_conditions.specs.Tables.{same_name}
use Rattle.visibility.specs.Exports.{defined_spots}
use Rattle.visibility.proofs.Defining.{SameSpots, none_found}
use Rattle.visibility.proofs.definers.definers_of.Given as goal

-- the table and the units that are left say what all units say
abbrev pub invariant-loop-unit : goal.invariant-loop-unit
invariant-loop-unit l =
    SameSpots (get same_name l.table) (defined_spots l.skeletons (drop l.unit-index l.units))
    none_found (defined_spots l.skeletons l.units)
