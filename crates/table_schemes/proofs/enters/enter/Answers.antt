use Rattle.type_schemes.proofs.Adding.{adds_extends}
use Rattle.table_schemes.proofs.enters.enter.Goals as goal

pub returns-in-Ok-clause-extends : goal.returns-in-Ok-clause-extends
returns-in-Ok-clause-extends c = adds_extends c.args.table.now c.enter_nodes.new.table c.enter_nodes.ensures.added
