use Rattle.std.proofs.Common.{◌≡◌, drop, []}
use Rattle.env_parts.proofs.Facting.{facts_after}
use Rattle.env_parts.proofs.entry_facts.tree_facts.Given as goal

abbrev pub invariant-loop-node : goal.invariant-loop-node
invariant-loop-node l = facts_after l.made (drop l.node-index l.nodes) ≡ facts_after [] l.nodes
