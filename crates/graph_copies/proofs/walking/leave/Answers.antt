use Rattle.graph_copies.proofs.Copying.{on_ok, copy_added}
use Rattle.graph_copies.proofs.walking.leave.Goals as goal

pub returns-clause-copied : goal.returns-clause-copied
returns-clause-copied c = on_ok c.set.result c.set.ensures
    (λ s. copy_added c.args.graph.now.items c.args.into.now c.add.new.self c.args.images.now c.set.new.self
    c.in_ok-node.node c.args.place c.in_ok-image.image c.requires c.in_ok-node.ensures c.in_ok-image.ensures.ok s)
