use Rattle.sml_modules.proofs.Making.{signature_made}
use Rattle.sml_modules.proofs.graph.EnvGraph.make_sig.Goals as goal

pub returns-clause-ok : goal.returns-clause-ok
returns-clause-ok c = signature_made c.args.self.now c.add.new.self c.args.parts.now c.in_ok-bound.bound
    (record { place = c.in_ok-place.place }) c.in_ok-bound.ensures c.in_ok-place.ensures.ok
