use Rattle.std.proofs.Common.{subst, ap, ◌∙◌, ◌++◌, length, IfOk}
use Rattle.node_bytes.specs.Nodes.{Node, Content}
use Rattle.node_tables.specs.Tables.{Adds}
use Rattle.interface_nodes.specs.Fields.{table_items, values_items}
use Rattle.interface_nodes.proofs.Contents.{three_content, three_below, env_content, table_below, values_below}
use Rattle.interface_nodes.proofs.environments.add_environment.Goals as goal

pub add-requires : goal.add-requires
add-requires c =
    let old = c.args.table.now in
    let env = c.args.env.now in
    three_below (length old) c.new-items.result c.add_table.new.items c.add_table-2.new.items c.add_values.new.items
    (table_items env.structures) (table_items env.types) (values_items env.values) c.new-items.ensures
    (c.in_ok-add_table.ensures ∙ ap (λ z. c.new-items.result ++ table_items z) c.as_slice.ensures)
    (c.in_ok-add_table-2.ensures ∙ ap (λ z. c.add_table.new.items ++ table_items z) c.as_slice-2.ensures)
    (c.in_ok-add_values.ensures ∙ ap (λ z. c.add_table-2.new.items ++ values_items z) c.as_slice-3.ensures)
    (table_below (length old) env.structures c.requires.structures)
    (table_below (length old) env.types c.requires.types) (values_below (length old) env.values c.requires.values)

pub returns-clause-ok : goal.returns-clause-ok
returns-clause-ok c =
    let old = c.args.table.now in
    let env = c.args.env.now in
    subst (λ (z : Content). IfOk c.add.result (Adds old c.add.new.self (Node.node 8 z)))
    (three_content old c.new-items.result c.add_table.new.items c.add_table-2.new.items c.add_values.new.items
    (table_items env.structures) (table_items env.types) (values_items env.values) _ c.new-items.ensures
    (c.in_ok-add_table.ensures ∙ ap (λ z. c.new-items.result ++ table_items z) c.as_slice.ensures)
    (c.in_ok-add_table-2.ensures ∙ ap (λ z. c.add_table.new.items ++ table_items z) c.as_slice-2.ensures)
    (c.in_ok-add_values.ensures ∙ ap (λ z. c.add_table-2.new.items ++ values_items z) c.as_slice-3.ensures)
    (env_content old env.structures env.types env.values)) c.add.ensures.ok
