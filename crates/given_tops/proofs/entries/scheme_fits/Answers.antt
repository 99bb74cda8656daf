use Rattle.std.proofs.Common.{ap, length}
use Rattle.type_walks.proofs.Imaging.{if_ok}
use Rattle.given_tops.proofs.Holding.{scheme_is}
use Rattle.given_tops.proofs.entries.scheme_fits.Goals as goal

pub returns : goal.returns
returns c = if_ok c.tree_fits.result c.tree_fits.ensures
    (λ b h. scheme_is c.args.limits.now (length c.marks.result.now) c.args.scheme.now c.body.result.now b
    (ap length c.marks.ensures) c.body.ensures h)
