use Rattle.std.proofs.Common.{subst, length, IfOk}
use Rattle.node_bytes.specs.Nodes.{Node, Content}
use Rattle.node_tables.specs.Tables.{Adds}
use Rattle.interface_nodes.specs.Fields.{type_name_items, parts_items}
use Rattle.interface_nodes.proofs.Contents.{two_content, two_below, named_content, name_below, parts_below}
use Rattle.interface_nodes.proofs.types.add_named.Goals as goal

pub add-requires : goal.add-requires
add-requires c =
    let old = c.args.table.now in
    let home = c.args.home.now in
    let name = c.args.name.now in
    let places = c.args.args.now in
    two_below (length old) c.new-items.result c.add_type_name.new.items c.add_parts.new.items
    (type_name_items home name) (parts_items places) c.new-items.ensures c.in_ok-add_type_name.ensures
    c.in_ok-add_parts.ensures (name_below (length old) home name) (parts_below (length old) places c.requires)

pub returns-clause-ok : goal.returns-clause-ok
returns-clause-ok c =
    let old = c.args.table.now in
    let home = c.args.home.now in
    let name = c.args.name.now in
    let places = c.args.args.now in
    subst (λ (z : Content). IfOk c.add.result (Adds old c.add.new.self (Node.node 4 z)))
    (two_content old c.new-items.result c.add_type_name.new.items c.add_parts.new.items
    (type_name_items home name) (parts_items places) _ c.new-items.ensures c.in_ok-add_type_name.ensures
    c.in_ok-add_parts.ensures (named_content old home name places)) c.add.ensures.ok
