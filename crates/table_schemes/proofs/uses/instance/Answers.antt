use Rattle.type_schemes.proofs.Adding.{adds_extends}
use Rattle.table_schemes.proofs.uses.instance.Goals as goal

pub returns-in-Ok-clause-extends : goal.returns-in-Ok-clause-extends
returns-in-Ok-clause-extends c = adds_extends c.args.table.now c.make_instance.new.table c.make_instance.ensures.added
