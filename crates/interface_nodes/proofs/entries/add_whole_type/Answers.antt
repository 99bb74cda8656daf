use Rattle.std.proofs.Common.{length, sym, subst, List}
use Rattle.interface_format.specs.Tags.{type_structure_node}
use Rattle.interface_format.specs.Trees.{node_of_function}
use Rattle.node_tables.specs.Tables.{Adds}
use Rattle.interface_nodes.specs.declared.fields.NamedPlace.{NamedPlace}
use Rattle.interface_nodes.specs.Fields.{node_at, rows_at, RowsAreBelow}
use Rattle.interface_nodes.proofs.Imaging.{if_ok}
use Rattle.interface_nodes.proofs.Entering.{rows_then, adds_beside}
use Rattle.interface_nodes.proofs.entries.add_whole_type.Goals as goal

pub add_type_structure-requires-clause-cons : goal.add_type_structure-requires-clause-cons
add_type_structure-requires-clause-cons c =
    let rows = c.in_ok-cons.cons in
    let stay = rows_then c.args.table.now c.add_constructors.new.table c.add_whole_function.new.table _ rows
    (node_of_function c.args.home.now c.args.structure.now.function) c.in_ok-function.function c.in_ok-cons.ensures
    c.in_ok-function.ensures in
    subst (λ (z : List NamedPlace). RowsAreBelow (length c.add_whole_function.new.table) z) (sym c.as_slice.ensures)
    stay.within

pub returns : goal.returns
returns c =
    let rows = c.in_ok-cons.cons in
    if_ok c.add_type_structure.result c.add_type_structure.ensures.ok
    (λ q k. adds_beside (type_structure_node) c.args.table.now c.add_constructors.new.table
    c.add_whole_function.new.table c.add_type_structure.new.table _ rows
    (node_of_function c.args.home.now c.args.structure.now.function) c.in_ok-function.function q c.in_ok-cons.ensures
    c.in_ok-function.ensures
    (subst (λ (z : List NamedPlace). Adds c.add_whole_function.new.table c.add_type_structure.new.table
    (type_structure_node (node_at c.add_whole_function.new.table c.in_ok-function.function)
    (rows_at c.add_whole_function.new.table z)) q) c.as_slice.ensures k))
