use Rattle.table_cases.proofs.Having.{have_nothing}
use Rattle.table_cases.proofs.growing.instances_of.Goals as goal

pub generalise-requires-clause-kept : goal.generalise-requires-clause-kept
generalise-requires-clause-kept c = have_nothing c.args.table.now c.new-nothing.result c.new-nothing.ensures
