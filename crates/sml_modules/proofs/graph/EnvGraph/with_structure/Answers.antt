use Rattle.std.proofs.Common.{refl}
use Rattle.semantic_objects.specs.Environments.{with_structure}
use Rattle.sml_modules.specs.Graphs.{env_at}
use Rattle.sml_modules.specs.Nodes.{env_of_tables}
use Rattle.sml_modules.proofs.Keeping.{gives_ok}
use Rattle.sml_modules.proofs.Making.{structure_set_are, structure_set_is}
use Rattle.sml_modules.proofs.graph.EnvGraph.with_structure.Goals as goal

pub add_env-requires : goal.add_env-requires
add_env-requires c = structure_set_are c.args.self.now c.in_ok-old.old.now c.in_ok-tables.tables
    (record c.in_ok-tables.tables { structures = c.set.new.self }) (env_at c.args.self.now c.args.env)
    c.args.name.now c.in_ok-name.name c.args.entry c.in_ok-old.ensures c.in_ok-tables.ensures c.in_ok-name.ensures
    c.requires.entry c.in_ok-set.ensures.ok refl refl

pub returns-clause-ok : goal.returns-clause-ok
returns-clause-ok c = gives_ok c.args.self.now c.add_env.new.self
    (env_of_tables c.args.self.now.items (record c.in_ok-tables.tables { structures = c.set.new.self }))
    (with_structure c.args.name.now (env_at c.args.self.now c.args.entry) (env_at c.args.self.now c.args.env))
    c.add_env.result c.add_env.ensures.ok
    (structure_set_is c.args.self.now c.in_ok-old.old.now c.in_ok-tables.tables
    (record c.in_ok-tables.tables { structures = c.set.new.self }) (env_at c.args.self.now c.args.env)
    c.args.name.now c.in_ok-name.name c.args.entry c.in_ok-old.ensures c.in_ok-tables.ensures c.in_ok-name.ensures
    c.in_ok-set.ensures.ok refl refl)
