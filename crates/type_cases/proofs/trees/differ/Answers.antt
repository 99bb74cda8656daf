use Rattle.type_cases.proofs.Closed.{texts_differ}
use Rattle.type_cases.proofs.trees.differ.Goals as goal

pub returns : goal.returns
returns c = texts_differ c.args.this.now c.args.that.now c.are_one.result c.are_one.ensures
