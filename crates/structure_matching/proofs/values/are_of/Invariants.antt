use Rattle.std.proofs.Common.{drop}
use Rattle.type_nodes.specs.Tables.{state}
use Rattle.structure_matching.proofs.Covering.{OfTo}
use Rattle.structure_matching.proofs.values.are_of.Given as goal

abbrev pub invariant-loop-node : goal.invariant-loop-node
invariant-loop-node l = OfTo (state l.t) l.nodes (drop l.node-index l.nodes)
