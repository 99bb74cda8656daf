use Rattle.env_parts.proofs.Facting.{tree_done}
use Rattle.env_parts.proofs.entry_facts.tree_facts.Goals as goal

pub returns-in-Some : goal.returns-in-Some
returns-in-Some c = tree_done c.loop-node.made c.pop.new.self c.in-Some.facts c.nodes-nodes.result.now
    c.loop-node.node-index c.args.tree.now c.loop-node.invariant c.loop-node-test.false c.in-Some.ensures
    c.nodes-nodes.ensures.tree
