use Rattle.sml_modules.proofs.Growing.{stands_some, stands_none}
use Rattle.sml_modules.proofs.graph.EnvGraph.node_at.Goals as goal

pub returns-clause-node : goal.returns-clause-node
returns-clause-node c = stands_some c.self.inside.nodes c.self.inside.home c.self.inside.made c.args.self.now c.args.place c.get.result c.self.invariant c.self.view_is
    c.get.ensures.item

pub returns-clause-none : goal.returns-clause-none
returns-clause-none c = stands_none c.self.inside.nodes c.self.inside.home c.self.inside.made c.args.self.now c.args.place c.get.result c.self.view_is c.get.ensures.item
