use Rattle.std.proofs.Common.{◌≡◌, length}
use Rattle.given_tops.specs.Names.{nodes_of}
use Rattle.given_tops.specs.Knowing.{AreTold}
use Rattle.given_tops.proofs.table.nodes_hold.Given as goal

abbrev pub invariant-loop-at : goal.invariant-loop-at
invariant-loop-at l = record {
  told : AreTold l.fn.t (nodes_of l.fn.limits) l.held;
  counted : length l.held ≡ l.at;
}
