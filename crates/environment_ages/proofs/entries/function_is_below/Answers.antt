use Rattle.type_walks.proofs.Imaging.{if_ok}
use Rattle.environment_ages.proofs.Holding.{function_is}
use Rattle.environment_ages.proofs.entries.function_is_below.Goals as goal

pub returns : goal.returns
returns c = if_ok c.tree_holds.result c.tree_holds.ensures (λ b h. function_is c.args.count c.args.function.now b h)
