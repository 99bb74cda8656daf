use Rattle.semantic_objects.specs.Environments.{empty_env}
use Rattle.sml_modules.specs.Nodes.{env_of_tables}
use Rattle.sml_modules.proofs.Keeping.{gives_ok}
use Rattle.sml_modules.proofs.Making.{none_are, none_is}
use Rattle.sml_modules.proofs.graph.EnvGraph.empty_env.Goals as goal

pub add_env-requires : goal.add_env-requires
add_env-requires c = none_are c.args.self.now.items c.new-tables.result c.new-tables.ensures.structures
    c.new-tables.ensures.types c.new-tables.ensures.values

pub returns-clause-ok : goal.returns-clause-ok
returns-clause-ok c = gives_ok c.args.self.now c.add_env.new.self
    (env_of_tables c.args.self.now.items c.new-tables.result) empty_env c.add_env.result c.add_env.ensures.ok
    (none_is c.args.self.now.items c.new-tables.result c.new-tables.ensures.structures
    c.new-tables.ensures.types c.new-tables.ensures.values)
