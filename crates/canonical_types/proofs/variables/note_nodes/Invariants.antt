use Rattle.std.proofs.Common.{◌≡◌, [], drop}
use Rattle.std.specs.List.{flat_map}
use Rattle.unification.specs.Closing.{is_among}
use Rattle.name_walks.specs.Noting.{noted_all}
use Rattle.name_walks.specs.Visits.{variables_at}
use Rattle.canonical_types.proofs.variables.note_nodes.Given as goal

abbrev pub invariant-loop-place : goal.invariant-loop-place
invariant-loop-place l =
    noted_all is_among l.variables (flat_map (variables_at l.fn.nodes) (drop l.place-index l.fn.places))
    ≡ noted_all is_among [] (flat_map (variables_at l.fn.nodes) l.fn.places)
