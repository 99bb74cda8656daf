use Rattle.std.proofs.Common.{subst, length, IfOk}
use Rattle.node_bytes.specs.Nodes.{Node, Content}
use Rattle.node_tables.specs.Tables.{Adds}
use Rattle.interface_nodes.specs.Fields.{table_items}
use Rattle.interface_nodes.proofs.Contents.{one_content, one_below, table_before, table_below}
use Rattle.interface_nodes.proofs.types.add_record.Goals as goal

pub add-requires : goal.add-requires
add-requires c =
    let old = c.args.table.now in
    one_below (length old) c.new-items.result c.add_table.new.items (table_items c.args.fields.now) c.new-items.ensures
    c.in_ok-add_table.ensures (table_below (length old) c.args.fields.now c.requires)

pub returns-clause-ok : goal.returns-clause-ok
returns-clause-ok c =
    let old = c.args.table.now in
    let fields = c.args.fields.now in
    subst (λ (z : Content). IfOk c.add.result (Adds old c.add.new.self (Node.node 2 z)))
    (one_content old c.new-items.result c.add_table.new.items (table_items fields) _ c.new-items.ensures
    c.in_ok-add_table.ensures (table_before old fields Content.nothing)) c.add.ensures.ok
