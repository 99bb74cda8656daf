use Rattle.table_cases.proofs.Having.{have_nothing}
use Rattle.table_cases.proofs.growing.variables.Goals as goal

pub loop-init : goal.loop-init
loop-init c = have_nothing c.args.table.now c.new-ids.result c.new-ids.ensures
