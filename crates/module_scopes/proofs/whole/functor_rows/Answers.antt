use Rattle.sml_modules.specs.declared.id.FunId.{FunId}
use Rattle.module_scopes.proofs.Rows.{place_next}
use Rattle.module_scopes.proofs.whole.functor_rows.Goals as goal

pub loop-row-preserved : goal.loop-row-preserved
loop-row-preserved c = place_next (λ (id : FunId). id.place) c.args.made.now c.loop-row.row-index c.row-item.result
    c.loop-row.rows c.set.new.self c.in_ok-copy.field-0 c.loop-row-test.true c.row-item.is c.in_ok-copy.ensures
    c.loop-row.invariant c.in_ok-set.ensures.ok
