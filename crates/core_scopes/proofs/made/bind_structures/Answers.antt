use Rattle.std.proofs.Common.{ap, ◌∙◌, ◌++◌}
use Rattle.std.proofs.Math.Seq.{take-length}
use Rattle.core_scopes.specs.Listed.{env_rows}
use Rattle.core_scopes.proofs.made.bind_structures.Goals as goal

pub loop-entry-init : goal.loop-entry-init
loop-entry-init c = record {
  bound = ap (λ rows. c.args.trail.now ++ env_rows rows)
      (c.into_iter-entry-iterator.ensures.into_iter_gives.0 ∙ c.into_vec-entry-items.ensures);
  kept = take-length c.args.trail.now;
}
