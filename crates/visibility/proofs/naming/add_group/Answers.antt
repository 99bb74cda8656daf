use Rattle.std.proofs.Common.{nat_eq, subst, sym}
use Rattle.indexmap.specs.IndexMap.{get}
use Rattle.visibility.specs.Tables.{Adds}
use Rattle.visibility.proofs.InProject.{read_is}
use Rattle.visibility.proofs.naming.add_group.Goals as goal

pub returns-in-None : goal.returns-in-None
returns-in-None c =
    subst (λ defined. Adds c.add_read.result defined c.add_read.new.wanted.items)
    (read_is c.args.project.now c.args.skeletons.now c.args.defs.now (get nat_eq c.args.places.now) c.args.below.now
    c.args.group c.in-Some.found.now c.args.wanted.now.items c.requires (sym c.in-Some.ensures.item) c.in-None.is)
    c.add_read.ensures
