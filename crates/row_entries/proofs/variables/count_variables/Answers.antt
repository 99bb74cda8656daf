use Rattle.std.specs.List.{flat_map}
use Rattle.name_walks.specs.Visits.{variables_at}
use Rattle.row_entries.proofs.Numbered.{counts, visited}
use Rattle.row_entries.proofs.variables.count_variables.Goals as goal

pub returns : goal.returns
returns c =
    let nodes = c.nodes-nodes.result.now in
    counts c.args.tree.now (flat_map (variables_at nodes) c.as_slice.result.now) c.count_nodes.result
    (visited nodes c.args.tree.now c.as_slice.result.now c.in_ok-places.places c.in_ok-places.ensures
    c.nodes-nodes.ensures.tree c.as_slice.ensures)
    c.count_nodes.ensures
