use Rattle.sml_modules.specs.Items.{Item}
use Rattle.sml_modules.specs.Nodes.{env_of_tables}
use Rattle.type_walks.proofs.Imaging.{on_ok}
use Rattle.environment_walks.proofs.Changes.{added_all, tables_some}
use Rattle.environment_walks.proofs.changing.finish_env.Goals as goal

pub returns-in_ok-image-in-Some-clause-changed : goal.returns-in_ok-image-in-Some-clause-changed
returns-in_ok-image-in-Some-clause-changed g c = on_ok c.set.result c.set.ensures
    (λ s. added_all (g.C.TypeChanges.change c.args.by.now) c.args.graph.now c.add_env.new.self c.args.images.now c.set.new.self
    (Item.EnvItem (env_of_tables c.args.graph.now.items c.in-Some.tables)) c.args.place
    c.in_ok-image-in-Some.image.place c.in_ok-image-in-Some.ensures.ok c.requires.changed
    (tables_some (g.C.TypeChanges.change c.args.by.now) c.args.graph.now.items c.args.place c.in_ok-tables.field-0 c.in-Some.tables
    c.in_ok-tables.ensures c.in-Some.is) s)
