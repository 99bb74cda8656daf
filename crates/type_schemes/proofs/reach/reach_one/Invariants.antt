use Rattle.std.proofs.Common.{◌≡◌, ℕ, Bool}
use Rattle.unification.specs.Closing.{found_in}
use Rattle.type_nodes.specs.Tables.{whole}
use Rattle.type_schemes.specs.Reaching.{IsReached, StepsHave, found, found_after, weights}
use Rattle.type_schemes.proofs.reach.reach_one.Given as goal

abbrev pub invariant-loop-step : goal.invariant-loop-step
invariant-loop-step l = record {
  reached : IsReached l.fn.table l.reached;
  found : (kept : ℕ → Bool) → found_after kept l.fn.table l.steps (found kept l.reached)
      ≡ found_in kept (whole l.fn.table l.fn.id) (found kept l.fn.reached);
  have : StepsHave l.fn.table l.steps;
}

abbrev pub decreases-loop-step : goal.decreases-loop-step
decreases-loop-step l = weights l.fn.table l.steps
