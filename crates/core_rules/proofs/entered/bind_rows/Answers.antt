use Rattle.std.proofs.Common.{arith, subst}
use Rattle.core_rules.proofs.Entering.{BindsOwn, entered_next, entered_end}
use Rattle.core_rules.proofs.entered.bind_rows.Goals as goal

pub loop-row-preserved : goal.loop-row-preserved
loop-row-preserved c =
    entered_next c.args.rows.now c.loop-row.row-index c.row-item.result c.args.scope.now c.loop-row.scope
    c.bind_value.new.self c.loop-row.invariant c.loop-row-test.true c.row-item.is
    (subst (λ name. BindsOwn c.loop-row.scope name c.row-item.result.1 c.bind_value.new.self) c.in_ok-copy.ensures
    c.in_ok-bind_value.ensures.ok) c.in_ok-bind_value.ensures.bare

pub returns-clause-ok : goal.returns-clause-ok
returns-clause-ok c =
    let past = c.loop-row-test.false in
    entered_end c.args.rows.now c.loop-row.row-index c.args.scope.now c.loop-row.scope c.loop-row.invariant
    (omega (arith, past))
