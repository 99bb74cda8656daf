use Rattle.std.proofs.Common.{◌∙◌, nat_eq, subst}
use Rattle.indexmap.specs.IndexMap.{get}
use Rattle.cm_base.specs.Calls.{Gives}
use Rattle.cm_conditions.specs.Tables.{same_name}
use Rattle.visibility.proofs.DefaultNames.{default_is}
use Rattle.visibility.proofs.defaults.default_exports.Goals as goal

pub returns : goal.returns
returns c =
    subst (Gives c.exports_in_order.result)
    (default_is c.args.project.now c.args.skeletons.now (get nat_eq c.args.places.now) c.args.below.now c.args.names.now
    c.args.group c.args.file.now (get same_name c.in_ok-table.table) c.in_ok-at.at c.as_slice-among.result.now
    c.sources.result.now c.in_ok-shown.shown c.as_slice.result.now
    (c.as_slice-among.ensures.value ∙ c.in_ok-subgroups.ensures) c.sources.ensures c.in_ok-table.ensures
    c.in_ok-shown.ensures (c.as_slice.ensures ∙ c.in_ok-ordered.ensures) c.in_ok-at.ensures)
    c.exports_in_order.ensures
