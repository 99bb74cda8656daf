use Rattle.std.proofs.Common.{drop}
use Rattle.std.specs.List.{flat_map}
use Rattle.name_walks.specs.Visits.{variables_at}
use Rattle.row_entries.proofs.Among.{BelowSo}
use Rattle.row_entries.proofs.variables.are_nodes_below.Given as goal

abbrev pub invariant-loop-place : goal.invariant-loop-place
invariant-loop-place l =
    BelowSo l.count (variables_at l.fn.nodes) (flat_map (variables_at l.fn.nodes) l.fn.places)
    (drop l.place-index l.fn.places)
