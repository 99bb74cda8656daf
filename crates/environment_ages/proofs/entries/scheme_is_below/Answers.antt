use Rattle.std.proofs.Common.{ap, length}
use Rattle.type_walks.proofs.Imaging.{if_ok}
use Rattle.environment_ages.proofs.Holding.{scheme_is}
use Rattle.environment_ages.proofs.entries.scheme_is_below.Goals as goal

pub returns : goal.returns
returns c = if_ok c.tree_holds.result c.tree_holds.ensures
    (λ b h. scheme_is c.args.count (length c.marks.result.now) c.args.scheme.now c.body.result.now b
    (ap length c.marks.ensures) c.body.ensures h)
