use Rattle.std.proofs.Common.{◌≡◌}
use Rattle.type_nodes.specs.Tables.{state}
use Rattle.known_environments.specs.Known.{AreKnown}
use Rattle.known_environments.proofs.collecting.note_nodes.Given as goal

abbrev pub invariant-loop-node : goal.invariant-loop-node
invariant-loop-node l = record {
  same : l.t ≡ l.fn.t;
  known : AreKnown (state l.t).stands l.known;
}
