use Rattle.std.proofs.Common.{nat_eq, subst, sym}
use Rattle.indexmap.specs.IndexMap.{get}
use Rattle.cm_base.specs.Calls.{Gives}
use Rattle.visibility.specs.Tables.{ArePlaces}
use Rattle.visibility.proofs.InProject.{exports_is}
use Rattle.visibility.proofs.calls.exports.Goals as goal

pub returns-in-Some : goal.returns-in-Some
returns-in-Some c =
    subst (Gives c.group_exports.result)
    (exports_is c.args.project.now c.args.skeletons.now c.args.defs.now (get nat_eq c.in_ok-places.places)
    c.args.below.now c.args.group c.in-Some.found.now
    (subst (ArePlaces (get nat_eq c.in_ok-places.places)) c.as_slice.ensures c.in_ok-places.ensures)
    (sym c.in-Some.ensures.item))
    c.group_exports.ensures
