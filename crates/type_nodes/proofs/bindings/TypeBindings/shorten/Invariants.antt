use Rattle.std.proofs.Common.{◌≡◌}
use Rattle.type_nodes.specs.Tables.{Has, whole, rank}
use Rattle.type_nodes.proofs.bindings.TypeBindings.shorten.Given as goal

abbrev pub invariant-loop-at : goal.invariant-loop-at
invariant-loop-at l = record {
  has : Has l.fn.self l.at;
  whole : whole l.fn.self l.at ≡ whole l.fn.self l.fn.id;
  same : l.self ≡ l.fn.self;
}

abbrev pub decreases-loop-at : goal.decreases-loop-at
decreases-loop-at l = rank l.fn.self l.at
