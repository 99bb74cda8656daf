use Rattle.datatype_elab.proofs.Settling.{none_get}
use Rattle.datatype_elab.proofs.settle.admits.Goals as goal

pub returns-in-None : goal.returns-in-None
returns-in-None c = none_get c.args.choice.now c.args.place c.in-None.ensures.item
