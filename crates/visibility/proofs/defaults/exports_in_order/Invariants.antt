use Rattle.std.proofs.Common.{◌≡◌, drop}
use Rattle.indexmap.specs.IndexMap.{get}
use Rattle.cm_conditions.specs.Tables.{same_name}
use Rattle.visibility.specs.Tables.{defaults_by}
use Rattle.visibility.proofs.Collecting.{before}
use Rattle.visibility.proofs.defaults.exports_in_order.Given as goal

-- the exports of the names so far, and of those that are left
abbrev pub invariant-loop-name : goal.invariant-loop-name
invariant-loop-name l =
    before l.exports (defaults_by l.names (get same_name l.table) l.at (drop l.name-index l.ordered))
    ≡ defaults_by l.names (get same_name l.table) l.at l.ordered
