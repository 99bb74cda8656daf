use Rattle.std.proofs.Common.{subst, ap, length, IfOk}
use Rattle.node_bytes.specs.Nodes.{Node, Content}
use Rattle.node_tables.specs.Tables.{Adds}
use Rattle.interface_nodes.specs.Fields.{table_items, part_items, node_at}
use Rattle.interface_nodes.proofs.Contents.{two_content, two_below, table_before, table_below}
use Rattle.interface_nodes.proofs.environments.add_type_structure.Goals as goal

pub add-requires-2 : goal.add-requires-2
add-requires-2 c =
    let old = c.args.table.now in
    two_below (length old) c.new-items.result c.add.new.self c.add_table.new.items (part_items c.args.function)
    (table_items c.args.cons.now) c.new-items.ensures c.in_ok-add.ensures.ok c.in_ok-add_table.ensures
    (c.requires.function, tt) (table_below (length old) c.args.cons.now c.requires.cons)

pub returns-clause-ok : goal.returns-clause-ok
returns-clause-ok c =
    let old = c.args.table.now in
    subst (λ (z : Content). IfOk c.add-2.result (Adds old c.add-2.new.self (Node.node 7 z)))
    (two_content old c.new-items.result c.add.new.self c.add_table.new.items (part_items c.args.function)
    (table_items c.args.cons.now) _ c.new-items.ensures c.in_ok-add.ensures.ok c.in_ok-add_table.ensures
    (ap (λ c'. Content.part (node_at old c.args.function) c') (table_before old c.args.cons.now Content.nothing)))
    c.add-2.ensures.ok
