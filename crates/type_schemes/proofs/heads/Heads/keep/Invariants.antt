use Rattle.std.proofs.Common.{◌≡◌}
use Rattle.type_nodes.specs.Tables.{Has, whole, rank}
use Rattle.type_schemes.specs.Heads.{AreHeads}
use Rattle.type_schemes.proofs.heads.Heads.keep.Given as goal

abbrev pub invariant-loop-at : goal.invariant-loop-at
invariant-loop-at l = record {
  has : Has l.fn.table l.at;
  whole : whole l.fn.table l.at ≡ whole l.fn.table l.fn.id;
  heads : AreHeads l.fn.table l.self;
}

abbrev pub decreases-loop-at : goal.decreases-loop-at
decreases-loop-at l = rank l.fn.table l.at
