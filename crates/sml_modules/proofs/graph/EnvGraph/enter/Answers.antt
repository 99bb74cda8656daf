use Rattle.sml_modules.proofs.Growing.{entered_is}
use Rattle.sml_modules.proofs.graph.EnvGraph.enter.Goals as goal

pub returns-clause-ok : goal.returns-clause-ok
returns-clause-ok c = entered_is c.self.inside.nodes c.self.inside.home c.in_ok-home.home c.self.inside.made
    c.new.result c.args.self.now c.args.home.now c.self.view_is c.in_ok-home.ensures c.new.ensures
