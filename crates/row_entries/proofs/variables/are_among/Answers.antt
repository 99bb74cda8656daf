use Rattle.std.specs.List.{flat_map}
use Rattle.name_walks.specs.Visits.{variables_at}
use Rattle.row_entries.proofs.Numbered.{visited}
use Rattle.row_entries.proofs.Among.{among_visited}
use Rattle.row_entries.proofs.variables.are_among.Goals as goal

pub returns : goal.returns
returns c =
    let nodes = c.nodes-nodes.result.now in
    among_visited c.args.tree.now c.args.count c.are_nodes_below.result
    (flat_map (variables_at nodes) c.as_slice.result.now)
    (visited nodes c.args.tree.now c.as_slice.result.now c.in_ok-places.places c.in_ok-places.ensures
    c.nodes-nodes.ensures.tree c.as_slice.ensures)
    c.are_nodes_below.ensures
