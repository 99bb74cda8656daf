use Rattle.std.proofs.Common.{length}
use Rattle.environment_nodes.specs.Written.{AreWithin, AreWritten, Grows}
use Rattle.environment_nodes.proofs.walking.walk.Given as goal

abbrev pub invariant-loop : goal.invariant-loop
invariant-loop l = record {
  grows : Grows l.fn.table l.table;
  within : AreWithin (length l.table) l.places;
  written : AreWritten l.fn.home l.fn.graph.items l.table l.places;
}
