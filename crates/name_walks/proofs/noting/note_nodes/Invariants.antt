use Rattle.std.proofs.Common.{◌≡◌, drop}
use Rattle.std.specs.List.{flat_map}
use Rattle.realisation.specs.Names.{is_listed}
use Rattle.type_walks.specs.Tables.{AreTold}
use Rattle.name_walks.specs.Noting.{noted_all}
use Rattle.name_walks.specs.Visits.{names_at}
use Rattle.name_walks.proofs.noting.note_nodes.Given as goal

abbrev pub invariant-loop-place : goal.invariant-loop-place
invariant-loop-place l = record {
  told : AreTold l.table;
  names : noted_all is_listed l.table.names (flat_map (names_at l.fn.nodes) (drop l.place-index l.fn.places))
      ≡ noted_all is_listed l.fn.table.names (flat_map (names_at l.fn.nodes) l.fn.places);
}
