use Rattle.std.proofs.Common.{subst, length, IfOk}
use Rattle.node_bytes.specs.Nodes.{Node, Content}
use Rattle.node_tables.specs.Tables.{Adds}
use Rattle.interface_nodes.specs.Fields.{table_items}
use Rattle.interface_nodes.proofs.Contents.{four_content, four_below, unit_content, table_below}
use Rattle.interface_nodes.proofs.environments.add_unit.Goals as goal

pub add-requires : goal.add-requires
add-requires c =
    let old = c.args.table.now in
    four_below (length old) c.new-items.result c.add_table.new.items c.add_table-2.new.items c.add_table-3.new.items
    c.add_table-4.new.items (table_items c.args.structures.now) (table_items c.args.signatures.now)
    (table_items c.args.functors.now) (table_items c.args.funsigs.now) c.new-items.ensures c.in_ok-add_table.ensures
    c.in_ok-add_table-2.ensures c.in_ok-add_table-3.ensures c.in_ok-add_table-4.ensures
    (table_below (length old) c.args.structures.now c.requires.structures)
    (table_below (length old) c.args.signatures.now c.requires.signatures)
    (table_below (length old) c.args.functors.now c.requires.functors)
    (table_below (length old) c.args.funsigs.now c.requires.funsigs)

pub returns-clause-ok : goal.returns-clause-ok
returns-clause-ok c =
    let old = c.args.table.now in
    subst (λ (z : Content). IfOk c.add.result (Adds old c.add.new.self (Node.node 11 z)))
    (four_content old c.new-items.result c.add_table.new.items c.add_table-2.new.items c.add_table-3.new.items
    c.add_table-4.new.items (table_items c.args.structures.now) (table_items c.args.signatures.now)
    (table_items c.args.functors.now) (table_items c.args.funsigs.now) _ c.new-items.ensures
    c.in_ok-add_table.ensures c.in_ok-add_table-2.ensures c.in_ok-add_table-3.ensures c.in_ok-add_table-4.ensures
    (unit_content old c.args.structures.now c.args.signatures.now c.args.functors.now c.args.funsigs.now))
    c.add.ensures.ok
