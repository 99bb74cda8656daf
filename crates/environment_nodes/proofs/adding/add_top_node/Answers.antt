use Rattle.std.proofs.Common.{length, List, sym, subst}
use Rattle.interface_nodes.specs.declared.fields.NamedPlace.{NamedPlace}
use Rattle.interface_nodes.specs.Fields.{RowsAreBelow}
use Rattle.environment_nodes.specs.Written.{ArePlaced}
use Rattle.environment_nodes.proofs.Growing.{if_ok}
use Rattle.environment_nodes.proofs.Placing.{rows_within, top_added}
use Rattle.environment_nodes.proofs.adding.add_top_node.Goals as goal

pub add_unit-requires-clause-structures : goal.add_unit-requires-clause-structures
add_unit-requires-clause-structures c = subst (λ (z : List NamedPlace). RowsAreBelow (length c.args.table.now) z)
    (sym c.as_slice.ensures)
    (rows_within (length c.args.table.now) c.args.places.now c.in_ok-env.env.now.structures
    c.in_ok-structures.structures c.requires.within c.in_ok-structures.ensures)

pub add_unit-requires-clause-signatures : goal.add_unit-requires-clause-signatures
add_unit-requires-clause-signatures c = subst (λ (z : List NamedPlace). RowsAreBelow (length c.args.table.now) z)
    (sym c.as_slice-2.ensures)
    (rows_within (length c.args.table.now) c.args.places.now c.args.tables.now.signatures
    c.in_ok-signatures.signatures c.requires.within c.in_ok-signatures.ensures)

pub add_unit-requires-clause-functors : goal.add_unit-requires-clause-functors
add_unit-requires-clause-functors c = subst (λ (z : List NamedPlace). RowsAreBelow (length c.args.table.now) z)
    (sym c.as_slice-3.ensures)
    (rows_within (length c.args.table.now) c.args.places.now c.args.tables.now.functors
    c.in_ok-functors.functors c.requires.within c.in_ok-functors.ensures)

pub add_unit-requires-clause-funsigs : goal.add_unit-requires-clause-funsigs
add_unit-requires-clause-funsigs c = subst (λ (z : List NamedPlace). RowsAreBelow (length c.args.table.now) z)
    (sym c.as_slice-4.ensures)
    (rows_within (length c.args.table.now) c.args.places.now c.args.tables.now.funsigs
    c.in_ok-funsigs.funsigs c.requires.within c.in_ok-funsigs.ensures)

pub returns : goal.returns
returns c =
    let places = c.args.places.now in
    if_ok c.add_unit.result c.add_unit.ensures.ok
    (λ place h. top_added c.args.graph.now.items places c.args.table.now c.add_unit.new.table c.args.tables.now
    c.in_ok-env.env.now c.as_slice.result.now c.as_slice-2.result.now c.as_slice-3.result.now
    c.as_slice-4.result.now place c.requires.tables c.in_ok-env.ensures
    (subst (ArePlaced places c.in_ok-env.env.now.structures) (sym c.as_slice.ensures) c.in_ok-structures.ensures)
    (subst (ArePlaced places c.args.tables.now.signatures) (sym c.as_slice-2.ensures) c.in_ok-signatures.ensures)
    (subst (ArePlaced places c.args.tables.now.functors) (sym c.as_slice-3.ensures) c.in_ok-functors.ensures)
    (subst (ArePlaced places c.args.tables.now.funsigs) (sym c.as_slice-4.ensures) c.in_ok-funsigs.ensures) h)
