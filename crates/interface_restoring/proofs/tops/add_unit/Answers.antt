use Rattle.sml_modules.specs.Items.{Item}
use Rattle.sml_modules.specs.Nodes.{env_of_tables, top_of_tables}
use Rattle.type_walks.proofs.Imaging.{if_ok}
use Rattle.interface_restoring.proofs.Units.{env_tables, top_tables, unit_stands, unit_added, then_added}
use Rattle.interface_restoring.proofs.tops.add_unit.Goals as goal

pub add-requires : goal.add-requires
add-requires c =
    unit_stands c.args.graph.now c.add_env.new.self c.args.tables
    (env_of_tables c.args.graph.now.items (env_tables c.args.tables c.new.result c.new-2.result)) c.in_ok-env.env.place
    c.requires c.in_ok-env.ensures.ok

pub returns-clause-extends : goal.returns-clause-extends
returns-clause-extends c =
    then_added c.args.graph.now c.add_env.new.self c.add.new.self
    (Item.TopItem (top_of_tables c.add_env.new.self.items (top_tables c.args.tables c.in_ok-env.env.place))) c.add.result
    c.in_ok-env.ensures.ok.extends c.add.ensures.ok c.add.ensures.err

pub returns-clause-adds : goal.returns-clause-adds
returns-clause-adds c =
    if_ok c.add.result c.add.ensures.ok
    (λ place h. unit_added c.args.graph.now c.add_env.new.self c.add.new.self c.args.tables c.new.result c.new-2.result
    c.in_ok-env.env.place place c.requires c.new.ensures c.new-2.ensures c.in_ok-env.ensures.ok h)
