use Rattle.plan_laws.proofs.Ordering.{cycles_have_no_plan, plans_are_orders, stored_are_orders}
use Rattle.plan_laws.proofs.laws.plans_are_orders.Goals as goal

pub returns-clause-plans : goal.returns-clause-plans
returns-clause-plans c = plans_are_orders

pub returns-clause-stored : goal.returns-clause-stored
returns-clause-stored c = stored_are_orders

pub returns-clause-cycles : goal.returns-clause-cycles
returns-clause-cycles c = cycles_have_no_plan
