use Rattle.std.proofs.Common.{◌≡◌, ℕ, Bool, [], drop}
use Rattle.unification.specs.Closing.{found_in_all}
use Rattle.type_nodes.specs.Tables.{whole_all}
use Rattle.type_schemes.specs.Reaching.{IsReached, found}
use Rattle.type_schemes.proofs.reach.reach.Given as goal

abbrev pub invariant-loop-id : goal.invariant-loop-id
invariant-loop-id l = record {
  reached : IsReached l.fn.table l.reached;
  found : (kept : ℕ → Bool) → found_in_all kept (whole_all l.fn.table (drop l.id-index l.fn.ids)) (found kept l.reached)
      ≡ found_in_all kept (whole_all l.fn.table l.fn.ids) [];
}
