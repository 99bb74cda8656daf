use Rattle.visibility.proofs.NameOrder.{name_put}
use Rattle.visibility.proofs.defaults.by_name.Goals as goal

pub loop-name-preserved : goal.loop-name-preserved
loop-name-preserved c =
    name_put c.loop-name.table.entries c.insert.new.self.entries c.loop-name.yielded c.in-Some.name
    c.loop-name.invariant c.in_ok-insert.ensures.updates.0
