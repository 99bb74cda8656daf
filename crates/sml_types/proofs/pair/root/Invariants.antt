use Rattle.std.proofs.Common.{◌<◌, length}
use Rattle.type_nodes.specs.Tables.{state}
use Rattle.sml_types.specs.Pairs.{IsOne}
use Rattle.sml_types.proofs.pair.root.Given as goal

abbrev pub invariant-loop-further : goal.invariant-loop-further
invariant-loop-further l = record {
  within : l.at < length l.fn.table.nodes;
  one : IsOne l.fn.table (state l.fn.table) l.at l.fn.node;
}

abbrev pub decreases-loop-further : goal.decreases-loop-further
decreases-loop-further l = l.at
