use Rattle.sml_modules.specs.Items.{at}
use Rattle.sml_modules.proofs.Looking.{is_functor, is_no_functor}
use Rattle.sml_modules.proofs.graph.EnvGraph.has_functor.Goals as goal

pub returns-in-Functor : goal.returns-in-Functor
returns-in-Functor c = is_functor (at c.args.self.now.items c.args.id.place) c.kind_at.result c.kind_at.ensures c.in-Functor.is

pub returns-in_default : goal.returns-in_default
returns-in_default c = is_no_functor (at c.args.self.now.items c.args.id.place) c.kind_at.result c.kind_at.ensures
    c.in_default.not-Functor
