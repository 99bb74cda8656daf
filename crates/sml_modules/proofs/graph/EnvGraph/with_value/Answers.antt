use Rattle.std.proofs.Common.{ap, ◌∙◌, [], ◌∷◌, ◌++◌}
use Rattle.semantic_objects.specs.Environments.{with_value}
use Rattle.sml_modules.specs.Graphs.{env_at}
use Rattle.sml_modules.specs.Adding.{over_tables}
use Rattle.sml_modules.proofs.Keeping.{gives_ok}
use Rattle.sml_modules.proofs.Making.{copy_are, value_set_is}
use Rattle.sml_modules.proofs.graph.EnvGraph.with_value.Goals as goal

pub add_over-requires : goal.add_over-requires
add_over-requires c = copy_are c.args.self.now.items c.in_ok-old.old.now c.in_ok-tables.tables
    (env_at c.args.self.now c.args.env) c.in_ok-old.ensures c.in_ok-tables.ensures

pub returns-clause-ok : goal.returns-clause-ok
returns-clause-ok c = gives_ok c.args.self.now c.add_over.new.self
    (over_tables c.args.self.now.items c.in_ok-tables.tables c.new-types.result c.add.new.self)
    (with_value c.args.name.now c.args.entry.now (env_at c.args.self.now c.args.env))
    c.add_over.result c.add_over.ensures.ok
    (value_set_is c.args.self.now.items c.in_ok-old.old.now c.in_ok-tables.tables (env_at c.args.self.now c.args.env)
    c.new-types.result c.add.new.self c.args.name.now c.in_ok-name.name c.args.entry.now c.in_ok-entry.entry
    c.in_ok-old.ensures c.in_ok-tables.ensures c.new-types.ensures (c.in_ok-add.ensures.ok ∙ ap (λ z. z ++ record { name = c.in_ok-name.name; entry = c.in_ok-entry.entry } ∷ [])
    c.new-values.ensures)
    c.in_ok-name.ensures c.in_ok-entry.ensures)
