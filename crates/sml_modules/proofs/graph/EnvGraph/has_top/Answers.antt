use Rattle.sml_modules.specs.Items.{at}
use Rattle.sml_modules.proofs.Looking.{is_top, is_no_top}
use Rattle.sml_modules.proofs.graph.EnvGraph.has_top.Goals as goal

pub returns-in-Top : goal.returns-in-Top
returns-in-Top c = is_top (at c.args.self.now.items c.args.id.place) c.kind_at.result c.kind_at.ensures c.in-Top.is

pub returns-in_default : goal.returns-in_default
returns-in_default c = is_no_top (at c.args.self.now.items c.args.id.place) c.kind_at.result c.kind_at.ensures
    c.in_default.not-Top
