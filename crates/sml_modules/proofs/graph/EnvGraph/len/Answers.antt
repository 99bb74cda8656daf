use Rattle.sml_modules.proofs.Growing.{counted}
use Rattle.sml_modules.proofs.graph.EnvGraph.len.Goals as goal

pub returns : goal.returns
returns c = counted c.self.inside.nodes c.self.inside.home c.self.inside.made c.args.self.now c.len.result c.self.view_is c.len.ensures
