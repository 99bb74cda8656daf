use Rattle.cm_base.specs.Calls.{Gives}
use Rattle.project_planning.specs.Planning.{plan_with}
use Rattle.project_planning.proofs.Steps.{names_refused, order_refused, passed, plan_found}
use Rattle.project_planning.proofs.planning.plan_with.Goals as goal

pub returns-in_err-names-clause-gives : goal.returns-in_err-names-clause-gives
returns-in_err-names-clause-gives c =
    passed c.from_residual.result c.in_err-names.field-0.0
    (λ r. Gives r (plan_with c.args.project.now c.args.defs.now c.args.skeletons)) c.from_residual.ensures.1
    (names_refused c.args.project.now c.args.skeletons c.args.defs.now c.in_err-names.field-0.0 c.in_err-names.ensures)

pub returns-in_err-order-clause-gives : goal.returns-in_err-order-clause-gives
returns-in_err-order-clause-gives c =
    passed c.from_residual-in_err-order.result c.in_err-order.field-0.0
    (λ r. Gives r (plan_with c.args.project.now c.args.defs.now c.args.skeletons))
    c.from_residual-in_err-order.ensures.1
    (order_refused c.args.project.now c.args.skeletons c.args.defs.now c.in_ok-names.names c.in_err-order.field-0.0
    c.in_ok-names.ensures c.in_err-order.ensures.gives)

pub returns-clause-gives : goal.returns-clause-gives
returns-clause-gives c =
    plan_found c.args.project.now c.args.skeletons c.args.defs.now c.in_ok-names.names c.in_ok-order.order
    c.in_ok-names.ensures c.in_ok-order.ensures.gives
