use Rattle.order_laws.proofs.Orders.{order_has_no_cycle, rank_is_longest}
use Rattle.order_laws.proofs.laws.ranks_are_longest_chains.Goals as goal

pub returns-clause-ranks : goal.returns-clause-ranks
returns-clause-ranks c = rank_is_longest

pub returns-clause-order : goal.returns-clause-order
returns-clause-order c = order_has_no_cycle
