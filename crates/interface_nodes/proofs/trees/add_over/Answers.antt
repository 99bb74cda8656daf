use Rattle.std.proofs.Common.{◌≡◌, List, length, map, subst, ap, ◌∙◌, sym, IfOk, ℕ}
use Rattle.std.specs.List.{zip}
use Rattle.node_bytes.specs.Nodes.{Node}
use Rattle.node_tables.specs.Tables.{Adds}
use Rattle.semantic_objects.specs.declared.symbol.Symbol.{Symbol}
use Rattle.interface_format.specs.Tags.{record_node}
use Rattle.interface_format.specs.Trees.{node_over}
use Rattle.interface_nodes.specs.Fields.{nodes_at, rows_at}
use Rattle.interface_nodes.specs.Images.{pair_of}
use Rattle.interface_nodes.proofs.Imaging.{rows_zip, rows_below}
use Rattle.interface_nodes.proofs.trees.add_over.Goals as goal

pub add_record-requires : goal.add_record-requires
add_record-requires c =
    rows_below (length c.args.table.now) c.as_slice.result.now c.in-Record.labels c.args.parts.now
    (ap (map pair_of) c.as_slice.ensures ∙ c.in_ok-fields-in-Record.ensures) c.requires

pub returns-in_ok-fields-in-Record : goal.returns-in_ok-fields-in-Record
returns-in_ok-fields-in-Record c =
    let old = c.args.table.now in
    let rows : rows_at c.args.table.now c.as_slice.result.now
    ≡ zip c.in-Record.labels (nodes_at c.args.table.now c.args.parts.now) =
    rows_zip old c.as_slice.result.now c.in-Record.labels c.args.parts.now
    (ap (map pair_of) c.as_slice.ensures ∙ c.in_ok-fields-in-Record.ensures) in
    subst (λ (z : Symbol). IfOk c.add_record.result (Adds c.args.table.now c.add_record.new.table
    (node_over c.args.home.now z (nodes_at c.args.table.now c.args.parts.now)))) (sym c.in-Record.is)
    (subst (λ (z : List (List ℕ × Node)). IfOk c.add_record.result
    (Adds c.args.table.now c.add_record.new.table (record_node z))) rows c.add_record.ensures.ok)
