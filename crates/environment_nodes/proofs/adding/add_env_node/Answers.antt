use Rattle.std.proofs.Common.{length}
use Rattle.environment_nodes.proofs.Growing.{if_ok}
use Rattle.environment_nodes.proofs.Placing.{rows_within, values_within, env_added}
use Rattle.environment_nodes.proofs.adding.add_env_node.Goals as goal

pub add_environment-requires-clause-structures : goal.add_environment-requires-clause-structures
add_environment-requires-clause-structures c = rows_within (length c.args.table.now) c.args.places.now
    c.args.tables.now.structures c.in_ok-placed_rows.field-0 c.requires.within c.in_ok-placed_rows.ensures

pub add_environment-requires-clause-types : goal.add_environment-requires-clause-types
add_environment-requires-clause-types c = rows_within (length c.args.table.now) c.args.places.now
    c.args.tables.now.types c.in_ok-placed_rows-2.field-0 c.requires.within c.in_ok-placed_rows-2.ensures

pub add_environment-requires-clause-values : goal.add_environment-requires-clause-values
add_environment-requires-clause-values c = values_within (length c.args.table.now) c.args.graph.now.items
    c.args.places.now c.args.tables.now.values c.in_ok-placed_values.field-0 c.requires.within
    c.in_ok-placed_values.ensures

pub returns : goal.returns
returns c = if_ok c.add_environment.result c.add_environment.ensures.ok
    (λ place h. env_added c.args.graph.now.items c.args.places.now c.args.table.now c.add_environment.new.table
    c.args.tables.now c.in_ok-placed_rows.field-0 c.in_ok-placed_rows-2.field-0 c.in_ok-placed_values.field-0 place
    c.requires.tables c.in_ok-placed_rows.ensures c.in_ok-placed_rows-2.ensures c.in_ok-placed_values.ensures h)
