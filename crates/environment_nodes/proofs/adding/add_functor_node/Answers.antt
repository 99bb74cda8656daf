use Rattle.environment_nodes.proofs.Growing.{if_ok}
use Rattle.environment_nodes.proofs.Items.{functor_added}
use Rattle.environment_nodes.proofs.adding.add_functor_node.Goals as goal

pub returns : goal.returns
returns c = if_ok c.add_functor.result c.add_functor.ensures.ok
    (λ place h. functor_added c.args.graph.now.items c.args.places.now c.args.table.now c.add_functor.new.table
    c.args.fun.now c.len.result c.len-2.result c.in_ok-param.param c.in_ok-body.body place c.requires.param
    c.requires.body c.len.ensures c.len-2.ensures c.in_ok-param.ensures c.in_ok-body.ensures h)
