use Rattle.std.proofs.Common.{ap, ◌∙◌}
use Rattle.semantic_objects.specs.Tables.{with_all}
use Rattle.semantic_objects.specs.Environments.{modified_by}
use Rattle.env_parts.specs.declared.tables.EnvTables.{EnvTables}
use Rattle.sml_modules.specs.Graphs.{env_at}
use Rattle.sml_modules.specs.Nodes.{env_of_tables}
use Rattle.sml_modules.proofs.Keeping.{gives_ok}
use Rattle.sml_modules.proofs.Making.{all_are, all_is}
use Rattle.sml_modules.proofs.graph.EnvGraph.with_all.Goals as goal

pub add_env-requires : goal.add_env-requires
add_env-requires c = all_are c.args.self.now.items c.in_ok-old.old.now c.in_ok-further.further.now
    (record { structures = c.set_all.new.self; types = c.set_all-2.new.self; values = c.set_all-3.new.self })
    (env_at c.args.self.now c.args.env) (env_at c.args.self.now c.args.by) c.in_ok-old.ensures c.in_ok-further.ensures
    (c.in_ok-set_all.ensures ∙ ap (λ (z : EnvTables). with_all c.in_ok-further.further.now.structures z.structures) c.in_ok-tables.ensures)
    (c.in_ok-set_all-2.ensures ∙ ap (λ (z : EnvTables). with_all c.in_ok-further.further.now.types z.types) c.in_ok-tables.ensures)
    (c.in_ok-set_all-3.ensures ∙ ap (λ (z : EnvTables). with_all c.in_ok-further.further.now.values z.values) c.in_ok-tables.ensures)

pub returns-clause-ok : goal.returns-clause-ok
returns-clause-ok c = gives_ok c.args.self.now c.add_env.new.self
    (env_of_tables c.args.self.now.items (record { structures = c.set_all.new.self; types = c.set_all-2.new.self; values = c.set_all-3.new.self }))
    (modified_by (env_at c.args.self.now c.args.env) (env_at c.args.self.now c.args.by))
    c.add_env.result c.add_env.ensures.ok
    (all_is c.args.self.now.items c.in_ok-old.old.now c.in_ok-further.further.now
    (record { structures = c.set_all.new.self; types = c.set_all-2.new.self; values = c.set_all-3.new.self })
    (env_at c.args.self.now c.args.env) (env_at c.args.self.now c.args.by) c.in_ok-old.ensures c.in_ok-further.ensures
    (c.in_ok-set_all.ensures ∙ ap (λ (z : EnvTables). with_all c.in_ok-further.further.now.structures z.structures) c.in_ok-tables.ensures)
    (c.in_ok-set_all-2.ensures ∙ ap (λ (z : EnvTables). with_all c.in_ok-further.further.now.types z.types) c.in_ok-tables.ensures)
    (c.in_ok-set_all-3.ensures ∙ ap (λ (z : EnvTables). with_all c.in_ok-further.further.now.values z.values) c.in_ok-tables.ensures))
