use Rattle.std.proofs.Common.{◌≡◌, drop}
use Rattle.std.specs.Prelude.{fold}
use Rattle.indexmap.specs.IndexMap.{get}
use Rattle.cm_base.specs.declared.record.ModName.{ModName}
use Rattle.cm_conditions.specs.Tables.{same_name}
use Rattle.visibility.specs.Providers.{units_under}
use Rattle.visibility.specs.Tables.{with_unit, at_name}
use Rattle.visibility.proofs.exported.note_exports.Given as goal

-- what is found so far and the exports that are left give what all give
abbrev pub invariant-loop-export : goal.invariant-loop-export
invariant-loop-export l = (name : ModName)
    → fold with_unit (at_name (get same_name l.table) name) (units_under (drop l.export-index l.exports) name)
    ≡ fold with_unit (at_name (get same_name l.fn.table) name) (units_under l.exports name)
