use Rattle.std.proofs.Common.{◌≡◌, drop}
use Rattle.structure_matching.proofs.Constructing.{SameTo}
use Rattle.structure_matching.proofs.constructors.are_same_cons.Given as goal

abbrev pub invariant-loop-at : goal.invariant-loop-at
invariant-loop-at l = record {
  same : SameTo l.left l.right (drop l.at l.left) (drop l.at l.right);
  table : l.t ≡ l.fn.t;
}
