use Rattle.node_bytes.specs.Tables.{row_node}
use Rattle.row_environments.proofs.Staying.{row_placed, values_stay, have_more}
use Rattle.row_environments.proofs.rows.note_env.Goals as goal

pub env_row-requires : goal.env_row-requires
env_row-requires c = (
  c.args.home.now,
  have_more c.args.home.now c.args.graph.now c.type_row.new.graph c.args.rows.now.told
      c.args.rows.now.values c.in_ok-type_place.ensures.extends c.requires,
)

pub note_entry-requires : goal.note_entry-requires
note_entry-requires c = c.requires.placed.entries.types.ordered

pub returns-clause-values : goal.returns-clause-values
returns-clause-values c =
    values_stay c.args.home.now c.requires.made (row_node c.requires.made c.args.row.now)
    c.args.rows.now.told.entries c.note_entry.new.rows c.env_row.new.graph.items c.env_row.new.places
    c.requires.placed.entries (c.in_ok-note_entry.ensures c.requires.made c.requires.placed.entries)
    c.in_ok-env_place.ensures.values

pub returns-clause-placed : goal.returns-clause-placed
returns-clause-placed c =
    row_placed c.args.home.now c.args.graph.now c.type_row.new.graph c.env_row.new.graph c.args.rows.now.told
    (record { entries = c.note_entry.new.rows; types = c.add.new.self; envs = c.add-2.new.self }) c.args.row.now
    c.in_ok-type_place.type_place c.in_ok-env_place.env_place c.in_ok-type_place.ensures.extends
    c.in_ok-env_place.ensures.extends c.in_ok-type_place.ensures.is c.in_ok-env_place.ensures.is
    c.in_ok-note_entry.ensures c.in_ok-add.ensures.ok c.in_ok-add-2.ensures.ok
