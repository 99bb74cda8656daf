use Rattle.type_walks.proofs.Imaging.{if_ok}
use Rattle.type_walks.proofs.Putting.{fixed_root}
use Rattle.type_walks.proofs.trees.is_replaced_in.Goals as goal

pub returns : goal.returns
returns c = if_ok c.is_any_replaced.result c.is_any_replaced.ensures
    (λ is h no. fixed_root c.args.by.now c.nodes.result.now c.args.tree.now (h no) c.nodes.ensures.tree)
