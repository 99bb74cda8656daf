use Rattle.std.proofs.Common.{ap, ◌∙◌}
use Rattle.sml_modules.specs.Items.{Item}
use Rattle.sml_modules.specs.Nodes.{env_of_tables}
use Rattle.sml_modules.proofs.Keeping.{cut_back, gives_top, adds_after, extends_self, extends_same}
use Rattle.sml_modules.proofs.Making.{none_are, none_is, top_none_are, top_none_is, env_placed, env_placed_as}
use Rattle.sml_modules.proofs.graph.EnvGraph.empty_top.Goals as goal

pub add_env-requires : goal.add_env-requires
add_env-requires c = none_are c.args.self.now.items c.new-tables.result c.new-tables.ensures.structures
    c.new-tables.ensures.types c.new-tables.ensures.values

pub add_top-requires : goal.add_top-requires
add_top-requires c = top_none_are c.add_env.new.self.items c.new-top_tables.result
    (env_placed c.args.self.now c.add_env.new.self _ c.in_ok-env.env.place c.new-top_tables.result.env
    c.in_ok-env.ensures.ok c.new-top_tables.ensures.env)
    c.new-top_tables.ensures.signatures c.new-top_tables.ensures.functors c.new-top_tables.ensures.funsigs

pub returns-in-Ok-clause-ok : goal.returns-in-Ok-clause-ok
returns-in-Ok-clause-ok c = gives_top c.args.self.now c.add_env.new.self c.add_top.new.self _ c.in-Ok.top
    c.in_ok-env.ensures.ok.extends
    (adds_after c.add_env.new.self c.add_env.new.self c.add_top.new.self _ _ c.in-Ok.top.place
    (extends_self c.add_env.new.self) c.in-Ok.ensures.ok
    (ap Item.TopItem (top_none_is c.add_env.new.self.items c.new-top_tables.result
    (env_placed_as c.args.self.now c.add_env.new.self
    (env_of_tables c.args.self.now.items c.new-tables.result) c.in_ok-env.env.place c.new-top_tables.result.env
    c.in_ok-env.ensures.ok c.new-top_tables.ensures.env
    (none_is c.args.self.now.items c.new-tables.result c.new-tables.ensures.structures
    c.new-tables.ensures.types c.new-tables.ensures.values))
    c.new-top_tables.ensures.signatures c.new-top_tables.ensures.functors c.new-top_tables.ensures.funsigs)))

pub returns-in-Err-clause-err : goal.returns-in-Err-clause-err
returns-in-Err-clause-err c = c.cut.ensures ∙ cut_back c.args.self.now c.add_top.new.self c.len-before.result
    (extends_same c.args.self.now c.add_env.new.self c.add_top.new.self c.in_ok-env.ensures.ok.extends
    c.in-Err.ensures.err)
    c.len-before.ensures
