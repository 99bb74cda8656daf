use Rattle.std.proofs.Common.{ap, ◌∙◌, ◌++◌, ◌∷◌, [], reverse}
use Rattle.std.proofs.Math.Seq.{take-length}
use Rattle.core_scopes.specs.Scopes.{written_rows}
use Rattle.core_scopes.proofs.Scoping.{bound_next, front_more}
use Rattle.core_scopes.proofs.written.bind_all.Goals as goal

pub loop-row-init : goal.loop-row-init
loop-row-init c = record {
  can = tt;
  ends = tt;
  bound = ap (λ rows. c.args.trail.now ++ reverse (written_rows rows))
      (ap (λ it. it.iter.rest.now) c.into_iter-row-iterator.ensures.into_iter_gives
      ∙ ap (λ it. it.rest.now) c.rev-row-items.ensures.source ∙ c.iter.ensures.rest ∙ c.as_slice.ensures);
  kept = take-length c.args.trail.now;
}

pub loop-row-preserved : goal.loop-row-preserved
loop-row-preserved c = record {
  can = tt;
  ends = tt;
  bound = bound_next c.loop-row.trail c.bind.new.self (c.args.trail.now ++ reverse (written_rows c.args.rows.now))
      c.in_ok-copy.field-0 c.loop-row.row-iterator.iter.rest.now c.next.new.self.iter.rest.now c.in-Some.row.now
      c.in_ok-copy.ensures c.in-Some.ensures.steps c.loop-row.invariant.bound c.in_ok-bind.ensures.ok;
  kept = front_more c.args.trail.now c.loop-row.trail
      ((c.in_ok-copy.field-0, c.in-Some.row.now.is) ∷ []) c.bind.new.self
      c.loop-row.invariant.kept c.in_ok-bind.ensures.ok;
}
