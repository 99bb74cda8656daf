use Rattle.order_laws.proofs.Values.{cycle_is_reported, cycle_is_value, order_is_value, order_without_cycle}
use Rattle.order_laws.proofs.laws.the_value_is_the_relation.Goals as goal

pub returns-clause-order : goal.returns-clause-order
returns-clause-order c = order_is_value

pub returns-clause-cycle : goal.returns-clause-cycle
returns-clause-cycle c = cycle_is_value

pub returns-clause-without : goal.returns-clause-without
returns-clause-without c = order_without_cycle

pub returns-clause-reported : goal.returns-clause-reported
returns-clause-reported c = cycle_is_reported
