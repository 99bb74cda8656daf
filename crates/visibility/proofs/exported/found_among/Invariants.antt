use Rattle.std.proofs.Common.{◌≡◌, drop, nat_eq}
use Rattle.std.specs.Prelude.{flat_map, fold}
use Rattle.indexmap.specs.IndexMap.{get}
use Rattle.cm_base.specs.declared.record.ModName.{ModName}
use Rattle.cm_conditions.specs.Tables.{same_name}
use Rattle.visibility.specs.Providers.{units_under}
use Rattle.visibility.specs.Tables.{with_unit, at_name, shown_at}
use Rattle.visibility.specs.declared.found.Found.TheVariants as found
use Rattle.visibility.proofs.exported.found_among.Given as goal

-- what is found so far and the members that are left give what all give
abbrev pub invariant-loop-member : goal.invariant-loop-member
invariant-loop-member l = (name : ModName)
    → fold with_unit (at_name (get same_name l.table) name)
    (units_under (flat_map (shown_at (get nat_eq l.places) l.below) (drop l.member-index l.among)) name)
    ≡ fold with_unit found.Missing (units_under (flat_map (shown_at (get nat_eq l.places) l.below) l.among) name)
