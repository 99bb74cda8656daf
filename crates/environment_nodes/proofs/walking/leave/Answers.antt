use Rattle.environment_nodes.proofs.Growing.{on_ok, added_written}
use Rattle.environment_nodes.proofs.walking.leave.Goals as goal

pub returns-clause-written : goal.returns-clause-written
returns-clause-written c = on_ok c.set.result c.set.ensures
    (λ s. added_written c.args.home.now c.args.graph.now.items c.args.table.now c.add_item.new.table
    c.args.places.now c.set.new.self c.args.place c.in_ok-node.node c.requires.within c.requires.written
    c.in_ok-node.ensures s)
