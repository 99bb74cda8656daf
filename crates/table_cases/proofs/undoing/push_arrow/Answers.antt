use Rattle.table_cases.proofs.Having.{new_has}
use Rattle.table_cases.proofs.undoing.push_arrow.Goals as goal

pub arrow-requires-clause-from : goal.arrow-requires-clause-from
arrow-requires-clause-from c = new_has c.args.table.now c.fresh.new.self _ c.in_ok-new.new c.in_ok-new.ensures.id c.in_ok-new.ensures.made

pub arrow-requires-clause-to : goal.arrow-requires-clause-to
arrow-requires-clause-to c = c.in_ok-new.ensures.extends.ids c.args.left c.requires.left
