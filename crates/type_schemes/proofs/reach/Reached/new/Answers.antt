use Rattle.type_schemes.proofs.Reaching.{reached_none}
use Rattle.type_schemes.proofs.reach.Reached.new.Goals as goal

pub returns-clause-reached : goal.returns-clause-reached
returns-clause-reached c = λ t. reached_none t
    (record { ids = c.new.result; nodes = c.new-2.result; variables = c.new-3.result; heads = c.new-4.result })
    c.new.ensures c.new-2.ensures c.new-3.ensures (c.new-4.ensures t)
