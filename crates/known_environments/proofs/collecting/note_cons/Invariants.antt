use Rattle.std.proofs.Common.{◌≡◌}
use Rattle.type_nodes.specs.Tables.{state}
use Rattle.known_environments.specs.Known.{AreKnown}
use Rattle.known_environments.proofs.collecting.note_cons.Given as goal

abbrev pub invariant-loop-con : goal.invariant-loop-con
invariant-loop-con l = record {
  same : l.t ≡ l.fn.t;
  known : AreKnown (state l.t).stands l.known;
}
