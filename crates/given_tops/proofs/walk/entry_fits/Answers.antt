use Rattle.std.proofs.Common.{ap, ◌∙◌}
use Rattle.sml_modules.specs.Items.{Item}
use Rattle.sml_modules.specs.Nodes.{node_item}
use Rattle.given_tops.specs.Names.{nodes_of}
use Rattle.given_tops.proofs.Walking.{entry_at}
use Rattle.given_tops.proofs.walk.entry_fits.Goals as goal

pub returns-in-TypeStr : goal.returns-in-TypeStr
returns-in-TypeStr c = entry_at (nodes_of c.args.limits.now) c.args.g.now.items c.args.place
    (Item.TypeItem c.in-TypeStr.kept.entry) c.type_fits.result
    (c.in-Some.ensures.node.is ∙ ap (node_item c.args.g.now.items) c.in-TypeStr.is) c.type_fits.ensures

pub returns-in-Value : goal.returns-in-Value
returns-in-Value c = entry_at (nodes_of c.args.limits.now) c.args.g.now.items c.args.place
    (Item.ValueItem c.in-Value.kept.entry) c.value_fits.result
    (c.in-Some.ensures.node.is ∙ ap (node_item c.args.g.now.items) c.in-Value.is) c.value_fits.ensures
