use Rattle.sml_modules.proofs.Growing.{name_is, named_is}
use Rattle.sml_modules.proofs.graph.EnvGraph.new_name.Goals as goal

pub returns-clause-ok : goal.returns-clause-ok
returns-clause-ok c = name_is c.self.inside.nodes c.self.inside.home c.in_ok-home.home c.self.inside.made
    c.args.self.now c.len-number.result c.args.arity c.args.eq c.self.view_is c.in_ok-home.ensures c.len-number.ensures

pub returns-clause-made : goal.returns-clause-made
returns-clause-made c = named_is c.self.inside.nodes c.self.inside.home c.self.inside.made c.add.new.self
    c.args.self.now _ c.in_ok-kept.kept c.self.view_is c.in_ok-kept.ensures c.in_ok-add.ensures.ok
