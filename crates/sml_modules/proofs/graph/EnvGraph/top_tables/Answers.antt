use Rattle.std.proofs.Common.{subst}
use Rattle.sml_modules.specs.Adding.{StandsAt}
use Rattle.sml_modules.proofs.Looking.{reads_top}
use Rattle.sml_modules.proofs.graph.EnvGraph.top_tables.Goals as goal

pub returns-in-Top : goal.returns-in-Top
returns-in-Top c = reads_top c.args.self.now.items c.args.top.place c.in-Top.tables
    (subst (StandsAt c.args.self.now.items c.args.top.place) c.in-Top.is c.in-Some.ensures.node)
