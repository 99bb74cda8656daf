use Rattle.std.proofs.Common.{ap, sym, cond, true, ◌∙◌}
use Rattle.indexmap.specs.IndexSet.{contains}
use Rattle.skeletons.specs.Scopes.{same_name}
use Rattle.skeletons.specs.Skeletons.{has_name}
use Rattle.skeletons.proofs.FirstLemmas.{sure_step}
use Rattle.skeletons.proofs.unit_skeleton.sure_names.Goals.{then-need+in_ok-copied+in_ok-insert, else-need}
use Rattle.skeletons.proofs.unit_skeleton.sure_names.Goals as goal

pub loop-need-preserved : goal.loop-need-preserved
loop-need-preserved c = λ name.
    let need = c.need-item.result in
    let old = contains same_name c.loop-need.names name in
    let step = sure_step c.args.uses.now c.loop-need.need-index need name old in
    elim c.if-need.branch [
      | then-need+in_ok-copied+in_ok-insert w ↦
          step (contains same_name c.if-need.names name) c.loop-need-test.true c.need-item.is
          (ap (λ names. contains same_name names name) w.names-is
          ∙ w.in_ok-insert.ensures.updates.0 name
          ∙ ap (λ k. cond (same_name k name) true old) w.in_ok-copied.ensures
          ∙ ap (λ b. cond b (cond (has_name name need.spot) true old) old) (sym w.if-need.true))
          ∙ c.loop-need.invariant name
      | else-need w ↦
          step (contains same_name c.if-need.names name) c.loop-need-test.true c.need-item.is
          (ap (λ names. contains same_name names name) w.names-is
          ∙ ap (λ b. cond b (cond (has_name name need.spot) true old) old) (sym w.if-need.false))
          ∙ c.loop-need.invariant name
    ]
