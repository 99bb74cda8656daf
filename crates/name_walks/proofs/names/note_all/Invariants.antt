use Rattle.std.specs.List.{flat_map}
use Rattle.realisation.specs.Names.{is_listed}
use Rattle.type_walks.specs.Tables.{AreTold}
use Rattle.name_walks.specs.Noting.{noted_all, IsWalk}
use Rattle.name_walks.specs.Places.{place_names}
use Rattle.name_walks.proofs.names.note_all.Given as goal

abbrev pub invariant-loop : goal.invariant-loop
invariant-loop l = record {
  told : AreTold l.table;
  walk : IsWalk is_listed (place_names l.fn.graph.items)
      (noted_all is_listed l.fn.table.names (flat_map (place_names l.fn.graph.items) l.fn.places))
      l.table.names l.done l.steps;
}
