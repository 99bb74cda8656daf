use Rattle.type_schemes.proofs.Adding.{adds_extends}
use Rattle.type_schemes.proofs.instances.instantiate.Goals as goal

pub returns-in-Ok-clause-extends : goal.returns-in-Ok-clause-extends
returns-in-Ok-clause-extends c = adds_extends c.args.table.now c.read_scheme.new.table c.read_scheme.ensures.added
