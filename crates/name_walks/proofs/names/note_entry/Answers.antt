use Rattle.std.proofs.Common.{◌∙◌, ap}
use Rattle.type_walks.proofs.Imaging.{on_ok}
use Rattle.sml_modules.specs.Items.{Item}
use Rattle.sml_modules.specs.Nodes.{node_item}
use Rattle.name_walks.proofs.Going.{entry_noted}
use Rattle.name_walks.proofs.names.note_entry.Goals as goal

pub returns-in-TypeStr-clause-names : goal.returns-in-TypeStr-clause-names
returns-in-TypeStr-clause-names c = on_ok c.note_type.result c.note_type.ensures.names
    (λ h. entry_noted c.args.graph.now.items c.args.place (Item.TypeItem c.in-TypeStr.kept.entry)
    c.args.table.now.names c.note_type.new.table.names
    (c.in-Some.ensures.node.is ∙ ap (node_item c.args.graph.now.items) c.in-TypeStr.is) h)

pub returns-in-Value-clause-names : goal.returns-in-Value-clause-names
returns-in-Value-clause-names c = on_ok c.note_value.result c.note_value.ensures.names
    (λ h. entry_noted c.args.graph.now.items c.args.place (Item.ValueItem c.in-Value.kept.entry)
    c.args.table.now.names c.note_value.new.table.names
    (c.in-Some.ensures.node.is ∙ ap (node_item c.args.graph.now.items) c.in-Value.is) h)
