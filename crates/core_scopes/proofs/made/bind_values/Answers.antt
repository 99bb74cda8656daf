use Rattle.std.proofs.Common.{ap, ◌∙◌, ◌++◌}
use Rattle.std.proofs.Math.Seq.{take-length}
use Rattle.core_scopes.specs.Listed.{bound_rows}
use Rattle.core_scopes.proofs.made.bind_values.Goals as goal

pub loop-named-init : goal.loop-named-init
loop-named-init g c = record {
  bound = ap (λ rows. c.args.trail.now ++ bound_rows rows)
      (c.into_iter-named-iterator.ensures.into_iter_gives.0 ∙ c.into_vec-named-items.ensures);
  kept = take-length c.args.trail.now;
}
