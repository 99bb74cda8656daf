use Rattle.std.proofs.Common.{length}
use Rattle.node_bytes.specs.Writing.{HasRoom}
use Rattle.node_bytes.specs.Going.{Goes, weights}
use Rattle.node_bytes.proofs.write.write_node.Given as goal

abbrev pub invariant-loop-top : goal.invariant-loop-top
invariant-loop-top l = record {
  room : HasRoom (length l.fn.rows) l.fn.limit l.state;
  goes : Goes l.fn.rows l.fn.root l.fn.back l.state;
}

abbrev pub decreases-loop-top : goal.decreases-loop-top
decreases-loop-top l = weights l.fn.rows l.state.opens
