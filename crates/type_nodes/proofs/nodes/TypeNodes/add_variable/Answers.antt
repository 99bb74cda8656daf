use Rattle.type_nodes.proofs.Knowing.{store_birth}
use Rattle.type_nodes.proofs.nodes.TypeNodes.add_variable.Goals as goal

pub invariant_of-self-2 : goal.invariant_of-self-2
invariant_of-self-2 c = rw c.in_ok-push.ensures.items (store_birth _ c.self.inside.facts.items c.args.birth c.self.invariant)
