use Rattle.std.proofs.Common.{refl}
use Rattle.sml_modules.specs.Nodes.{env_of_tables}
use Rattle.sml_modules.specs.Adding.{over_tables}
use Rattle.sml_modules.proofs.Keeping.{extends_then, adds_ok, extends_err, on_err}
use Rattle.sml_modules.proofs.Making.{kept_are, kept_tables, values_later}
use Rattle.sml_modules.proofs.graph.EnvGraph.keep_over.Goals as goal

pub keep_values-requires : goal.keep_values-requires
keep_values-requires c = values_later c.args.self.now c.keep_types.new.self c.args.tables.values
    c.keep_types.ensures.extends c.requires.values

pub returns-in_err-keep_values-clause-err : goal.returns-in_err-keep_values-clause-err
returns-in_err-keep_values-clause-err c = on_err c.from_residual-in_err-keep_values.result
    (extends_then c.args.self.now c.keep_types.new.self c.keep_values.new.self
    c.keep_types.ensures.extends c.keep_values.ensures.extends)

pub add_env-requires : goal.add_env-requires
add_env-requires c = kept_are c.args.self.now c.keep_types.new.self c.keep_values.new.self c.args.tables
    (record { structures = c.args.tables.structures; types = c.keep_types.new.rows; values = c.keep_values.new.rows })
    c.args.types c.args.values c.requires c.keep_types.ensures.extends c.keep_values.ensures.extends
    c.in_ok-keep_types.ensures.ok c.in_ok-keep_values.ensures.ok refl

pub returns-clause-ok : goal.returns-clause-ok
returns-clause-ok c = adds_ok c.args.self.now c.keep_values.new.self c.add_env.new.self
    (env_of_tables c.keep_values.new.self.items
    (record { structures = c.args.tables.structures; types = c.keep_types.new.rows; values = c.keep_values.new.rows }))
    (over_tables c.args.self.now.items c.args.tables c.args.types c.args.values) c.add_env.result
    (extends_then c.args.self.now c.keep_types.new.self c.keep_values.new.self
    c.keep_types.ensures.extends c.keep_values.ensures.extends)
    c.add_env.ensures.ok
    (kept_tables c.args.self.now c.keep_types.new.self c.keep_values.new.self c.args.tables
    (record { structures = c.args.tables.structures; types = c.keep_types.new.rows; values = c.keep_values.new.rows })
    c.args.types c.args.values c.requires c.keep_types.ensures.extends c.keep_values.ensures.extends
    c.in_ok-keep_types.ensures.ok c.in_ok-keep_values.ensures.ok refl)

pub returns-clause-err : goal.returns-clause-err
returns-clause-err c = extends_err c.args.self.now c.keep_values.new.self c.add_env.new.self c.add_env.result
    (extends_then c.args.self.now c.keep_types.new.self c.keep_values.new.self
    c.keep_types.ensures.extends c.keep_values.ensures.extends)
    c.add_env.ensures.err
