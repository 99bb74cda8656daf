use Rattle.semantic_objects.specs.Nodes.{IsNodeAt}
use Rattle.type_cases.proofs.Closed.{Before}
use Rattle.type_cases.proofs.node_lists.are_nodes.Given as goal

abbrev pub invariant-loop-at : goal.invariant-loop-at
invariant-loop-at l = Before IsNodeAt l.nodes l.at
