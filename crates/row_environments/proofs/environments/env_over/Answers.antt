use Rattle.row_entries.proofs.Found.{not_so, is_so}
use Rattle.row_environments.proofs.Formed.{env_unnamed, env_lacks, env_found, tables_stand, tables_none, tables_some}
use Rattle.row_environments.proofs.Staying.{placed_more}
use Rattle.row_environments.proofs.Valued.{values_kept}
use Rattle.row_environments.proofs.environments.env_over.Goals as goal

pub tables_of-requires-clause-values : goal.tables_of-requires-clause-values
tables_of-requires-clause-values c = c.requires.1.values

pub tables_of-requires-clause-named : goal.tables_of-requires-clause-named
tables_of-requires-clause-named c = is_so c.in_ok-are_named.field-0 c.in_ok-are_named.ensures c.if-not-branch.false

pub add_env-requires : goal.add_env-requires
add_env-requires c =
    tables_stand c.requires.0 c.requires.1.made c.args.told.now c.args.form.now c.tables_of.new.graph.items
    c.in-Some.tables
    (placed_more c.requires.0 c.args.graph.now c.tables_of.new.graph c.requires.1.made c.args.told.now
    c.in_ok-tables.ensures.extends c.requires.1.placed)
    (tables_some c.args.told.now c.tables_of.new.graph.items c.args.form.now c.in_ok-tables.field-0 c.in-Some.tables
    c.in_ok-tables.ensures.tables c.in-Some.is)

pub returns-then-not-branch-clause-is : goal.returns-then-not-branch-clause-is
returns-then-not-branch-clause-is c =
    env_unnamed c.args.told.now c.args.form.now c.args.graph.now.items c.args.graph.now.items
    (not_so c.in_ok-are_named.field-0 c.in_ok-are_named.ensures c.if-not-branch.true)

pub returns-in_default-clause-is : goal.returns-in_default-clause-is
returns-in_default-clause-is c =
    env_lacks c.args.told.now c.args.form.now c.args.graph.now.items c.tables_of.new.graph.items
    (tables_none c.args.told.now c.tables_of.new.graph.items c.args.form.now c.in_ok-tables.field-0
    c.in_ok-tables.ensures.tables (λ tables e. c.in_default.not-Some tables e))

pub returns-clause-is : goal.returns-clause-is
returns-clause-is c =
    env_found c.args.told.now c.args.form.now c.args.graph.now c.tables_of.new.graph c.add_env.new.self c.in-Some.tables
    c.in_ok-env.env.place c.in_ok-tables.ensures.extends
    (is_so c.in_ok-are_named.field-0 c.in_ok-are_named.ensures c.if-not-branch.false)
    (tables_some c.args.told.now c.tables_of.new.graph.items c.args.form.now c.in_ok-tables.field-0 c.in-Some.tables
    c.in_ok-tables.ensures.tables c.in-Some.is)
    c.in_ok-env.ensures.ok

pub returns-clause-values : goal.returns-clause-values
returns-clause-values c =
    values_kept c.args.told.now.entries.schemes c.tables_of.new.graph c.add_env.new.self c.tables_of.new.places
    c.in_ok-env.ensures.ok.extends c.in_ok-tables.ensures.values
