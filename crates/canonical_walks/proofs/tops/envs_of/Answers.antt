use Rattle.canonical_walks.proofs.Topped.{top_named}
use Rattle.canonical_walks.proofs.tops.envs_of.Goals as goal

pub returns-clause-names : goal.returns-clause-names
returns-clause-names c = (top_named c.args.graph.now c.args.tables.now c.new-envs.result c.add.new.self
    c.add_rows.new.envs c.add_rows-2.new.envs c.add_rows-3.new.envs c.requires c.new-envs.ensures c.in_ok-add.ensures.ok
    c.in_ok-add_rows.ensures c.in_ok-add_rows-2.ensures c.in_ok-add_rows-3.ensures).1

pub returns-clause-there : goal.returns-clause-there
returns-clause-there c = (top_named c.args.graph.now c.args.tables.now c.new-envs.result c.add.new.self
    c.add_rows.new.envs c.add_rows-2.new.envs c.add_rows-3.new.envs c.requires c.new-envs.ensures c.in_ok-add.ensures.ok
    c.in_ok-add_rows.ensures c.in_ok-add_rows-2.ensures c.in_ok-add_rows-3.ensures).0
