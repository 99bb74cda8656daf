use Rattle.std.proofs.Common.{drop}
use Rattle.std.specs.List.{flat_map}
use Rattle.name_walks.specs.Visits.{variables_at}
use Rattle.row_entries.proofs.Numbered.{GoesOn}
use Rattle.row_entries.proofs.variables.count_nodes.Given as goal

abbrev pub invariant-loop-place : goal.invariant-loop-place
invariant-loop-place l =
    GoesOn (variables_at l.fn.nodes) (flat_map (variables_at l.fn.nodes) l.fn.places) l.count
    (drop l.place-index l.fn.places)
