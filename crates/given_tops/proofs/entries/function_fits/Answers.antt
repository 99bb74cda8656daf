use Rattle.type_walks.proofs.Imaging.{if_ok}
use Rattle.given_tops.proofs.Holding.{function_is}
use Rattle.given_tops.proofs.entries.function_fits.Goals as goal

pub returns : goal.returns
returns c = if_ok c.tree_fits.result c.tree_fits.ensures
    (λ b h. function_is c.args.limits.now c.args.function.now b h)
