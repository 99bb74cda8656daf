use Rattle.table_cases.proofs.Having.{texts_differ}
use Rattle.table_cases.proofs.labels.differ.Goals as goal

pub returns : goal.returns
returns c = texts_differ c.args.this.now c.args.that.now c.are_one.result c.are_one.ensures
