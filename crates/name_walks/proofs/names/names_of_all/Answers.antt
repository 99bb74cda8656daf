use Rattle.name_walks.proofs.Going.{whole_named}
use Rattle.name_walks.proofs.names.names_of_all.Goals as goal

pub returns : goal.returns
returns c = whole_named c.args.graph.now c.args.envs.now c.in_ok-places.places c.new-table.result.names
    c.note_all.new.table.names c.requires c.in_ok-places.ensures c.new-table.ensures.names c.in_ok-note_all.ensures
