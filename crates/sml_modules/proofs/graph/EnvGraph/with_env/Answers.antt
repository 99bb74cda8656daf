use Rattle.std.proofs.Common.{refl}
use Rattle.sml_modules.specs.Graphs.{top_at, env_at}
use Rattle.sml_modules.specs.Nodes.{top_of_tables}
use Rattle.sml_modules.proofs.Keeping.{gives_top_ok}
use Rattle.sml_modules.proofs.Making.{env_set_are, env_set_is}
use Rattle.sml_modules.proofs.graph.EnvGraph.with_env.Goals as goal

pub add_top-requires : goal.add_top-requires
add_top-requires c = env_set_are c.args.self.now c.in_ok-old.old.now c.in_ok-tables.tables
    (record c.in_ok-tables.tables { env = c.args.env.place }) (top_at c.args.self.now c.args.top)
    c.args.env c.in_ok-old.ensures c.in_ok-tables.ensures c.requires.env refl refl refl refl

pub returns-clause-ok : goal.returns-clause-ok
returns-clause-ok c = gives_top_ok c.args.self.now c.add_top.new.self
    (top_of_tables c.args.self.now.items (record c.in_ok-tables.tables { env = c.args.env.place }))
    (record (top_at c.args.self.now c.args.top) { env = env_at c.args.self.now c.args.env })
    c.add_top.result c.add_top.ensures.ok
    (env_set_is c.args.self.now c.in_ok-old.old.now c.in_ok-tables.tables
    (record c.in_ok-tables.tables { env = c.args.env.place }) (top_at c.args.self.now c.args.top)
    c.args.env c.in_ok-old.ensures c.in_ok-tables.ensures refl refl refl refl)
