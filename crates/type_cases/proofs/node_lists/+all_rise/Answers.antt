use Rattle.std.proofs.Common.{◌<◌, arith, length}
use Rattle.type_cases.proofs.Closed.{short_rises}
use Rattle.type_cases.proofs.node_lists.+all_rise.Goals as goal

pub returns-in_default : goal.returns-in_default
returns-in_default t c = λ _.
    short_rises c.args.labels.now (let k = c.in_default.len_below in omega (arith, k))
