use Rattle.sml_modules.proofs.Growing.{added, pushed_are}
use Rattle.sml_modules.proofs.graph.EnvGraph.add.Goals as goal

pub invariant_of-self-2 : goal.invariant_of-self-2
invariant_of-self-2 c = pushed_are c.self.inside.nodes c.add.new.self c.self.inside.home c.self.inside.made
    c.args.self.now c.args.node c.self.invariant c.self.view_is c.requires c.in_ok-add.ensures.ok

pub returns-clause-ok : goal.returns-clause-ok
returns-clause-ok c = added c.self.inside.nodes c.add.new.self c.self.inside.home c.self.inside.made
    c.args.self.now c.args.node c.len-place.result c.self.view_is c.in_ok-add.ensures.ok c.len-place.ensures
