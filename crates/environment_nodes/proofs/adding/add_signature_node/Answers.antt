use Rattle.environment_nodes.proofs.Growing.{if_ok}
use Rattle.environment_nodes.proofs.Items.{signature_added}
use Rattle.environment_nodes.proofs.adding.add_signature_node.Goals as goal

pub returns : goal.returns
returns c = if_ok c.add_signature.result c.add_signature.ensures.ok
    (λ place h. signature_added c.args.graph.now.items c.args.places.now c.args.table.now c.add_signature.new.table
    c.args.sig.now c.len.result c.in_ok-env.env place c.requires.env c.len.ensures c.in_ok-env.ensures h)
