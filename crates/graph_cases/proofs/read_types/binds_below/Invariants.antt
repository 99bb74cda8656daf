use Rattle.std.proofs.Common.{drop}
use Rattle.graph_cases.specs.Below.{AreNodesBelow}
use Rattle.graph_cases.proofs.read_types.binds_below.Given as goal

-- where the nodes that are left are below, all are
abbrev pub invariant-loop-node : goal.invariant-loop-node
invariant-loop-node l = AreNodesBelow l.count (drop l.node-index l.nodes) → AreNodesBelow l.count l.nodes
