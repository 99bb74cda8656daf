use Rattle.std.proofs.Common.{ap, ◌∙◌}
use Rattle.sml_modules.specs.Items.{Item}
use Rattle.sml_modules.specs.Nodes.{node_item}
use Rattle.environment_ages.proofs.Walking.{entry_at}
use Rattle.environment_ages.proofs.walk.entry_is_below.Goals as goal

pub returns-in-TypeStr : goal.returns-in-TypeStr
returns-in-TypeStr c = entry_at c.args.count c.args.g.now.items c.args.place (Item.TypeItem c.in-TypeStr.kept.entry)
    c.type_is_below.result (c.in-Some.ensures.node.is ∙ ap (node_item c.args.g.now.items) c.in-TypeStr.is)
    c.type_is_below.ensures

pub returns-in-Value : goal.returns-in-Value
returns-in-Value c = entry_at c.args.count c.args.g.now.items c.args.place (Item.ValueItem c.in-Value.kept.entry)
    c.value_is_below.result (c.in-Some.ensures.node.is ∙ ap (node_item c.args.g.now.items) c.in-Value.is)
    c.value_is_below.ensures
