use Rattle.std.proofs.Common.{ap, ◌∙◌, []}
use Rattle.semantic_objects.specs.Tables.{with_all}
use Rattle.semantic_objects.specs.Environments.{env_of}
use Rattle.sml_modules.specs.Graphs.{structure_rows, type_rows, value_rows}
use Rattle.sml_modules.specs.Adding.{over_tables, place_rows}
use Rattle.sml_modules.proofs.Keeping.{gives_ok}
use Rattle.sml_modules.proofs.Making.{made_are, made_is}
use Rattle.sml_modules.proofs.graph.EnvGraph.make_env.Goals as goal

pub add_over-requires : goal.add_over-requires
add_over-requires c = made_are c.args.self.now (record c.new-tables.result { structures = c.set_structures.new.rows })
    c.args.structures.now c.requires
    (c.in_ok-set_structures.ensures ∙ ap (with_all (place_rows c.args.structures.now)) c.new-tables.ensures.structures)
    c.new-tables.ensures.types c.new-tables.ensures.values

pub returns-clause-ok : goal.returns-clause-ok
returns-clause-ok c = gives_ok c.args.self.now c.add_over.new.self
    (over_tables c.args.self.now.items (record c.new-tables.result { structures = c.set_structures.new.rows })
    c.args.types c.args.values)
    (env_of (with_all (structure_rows c.args.self.now c.args.structures.now) []) (with_all (type_rows c.args.types) [])
    (with_all (value_rows c.args.values) []))
    c.add_over.result c.add_over.ensures.ok
    (made_is c.args.self.now (record c.new-tables.result { structures = c.set_structures.new.rows })
    c.args.structures.now c.args.types c.args.values
    (c.in_ok-set_structures.ensures ∙ ap (with_all (place_rows c.args.structures.now)) c.new-tables.ensures.structures)
    c.new-tables.ensures.types c.new-tables.ensures.values)
