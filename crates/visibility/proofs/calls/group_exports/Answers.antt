use Rattle.std.proofs.Common.{nat_eq, subst}
use Rattle.indexmap.specs.IndexMap.{get}
use Rattle.cm_base.specs.Calls.{Gives}
use Rattle.visibility.proofs.InProject.{read_exports}
use Rattle.visibility.proofs.calls.group_exports.Goals as goal

pub returns-in_ok-names-in-None : goal.returns-in_ok-names-in-None
returns-in_ok-names-in-None c =
    subst (Gives c.shown.result)
    (read_exports c.args.project.now c.args.skeletons.now c.args.defs.now (get nat_eq c.args.places.now)
    c.args.below.now c.in_ok-names-in-None.names c.args.group c.args.found.now c.in_ok-names-in-None.ensures c.in-None.is)
    c.shown.ensures
