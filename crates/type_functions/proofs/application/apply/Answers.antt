use Rattle.type_schemes.proofs.Adding.{adds_extends}
use Rattle.type_functions.proofs.application.apply.Goals as goal

pub returns-in-Ok-clause-extends : goal.returns-in-Ok-clause-extends
returns-in-Ok-clause-extends c = adds_extends c.args.table.now c.read_nodes.new.table c.read_nodes.ensures.added
