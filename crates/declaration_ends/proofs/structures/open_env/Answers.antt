use Rattle.type_walks.proofs.Imaging.{on_ok}
use Rattle.declaration_ends.proofs.Nesting.{env_opened}
use Rattle.declaration_ends.proofs.structures.open_env.Goals as goal

pub returns : goal.returns
returns c = on_ok c.enter_rows-3.result c.enter_rows-3.ensures
    (λ h s. env_opened s c.args.g.now.items c.args.steps.now c.add.new.self c.enter_rows.new.steps
    c.enter_rows-2.new.steps c.enter_rows-3.new.steps c.args.place c.in_ok-tables.tables.now c.requires
    c.in_ok-tables.ensures c.in_ok-add.ensures.ok c.in_ok-enter_rows.ensures c.in_ok-enter_rows-2.ensures h)
