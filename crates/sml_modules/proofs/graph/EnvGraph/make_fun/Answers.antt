use Rattle.sml_modules.proofs.Making.{functor_made}
use Rattle.sml_modules.proofs.graph.EnvGraph.make_fun.Goals as goal

pub returns-clause-ok : goal.returns-clause-ok
returns-clause-ok c = functor_made c.args.self.now c.add.new.self c.args.parts.now c.in_ok-bound.bound
    c.in_ok-further.further (record { place = c.in_ok-place.place }) c.in_ok-bound.ensures c.in_ok-further.ensures
    c.in_ok-place.ensures.ok
